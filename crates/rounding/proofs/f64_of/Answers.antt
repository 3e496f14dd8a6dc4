-- `rounding::f64_of` meets its contract: the test is that of a NaN's word.
use lib.Ieee.{binary64, of_bits, div}
use Rattle.rounding.proofs.Words.{nan_of, number_of}
use Rattle.rounding.proofs.f64_of.Goals as goal

pub float_from_bits-result : goal.float_from_bits-result
float_from_bits-result c = number_of binary64 c.args.w c.if-w-gt9218868437227405312.false

pub returns-then-w-gt9218868437227405312 : goal.returns-then-w-gt9218868437227405312
unfolding of_bits div
returns-then-w-gt9218868437227405312 c = nan_of binary64 c.args.w c.if-w-gt9218868437227405312.true
