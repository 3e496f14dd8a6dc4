-- `rounding::f32_of` meets its contract: the test is that of a NaN's word.
use lib.Ieee.{binary32, of_bits, div}
use Rattle.rounding.proofs.Words.{nan_of, number_of}
use Rattle.rounding.proofs.f32_of.Goals as goal

pub float_from_bits-result : goal.float_from_bits-result
float_from_bits-result c = number_of binary32 c.args.w c.if-w-gt2139095040.false

pub returns-then-w-gt2139095040 : goal.returns-then-w-gt2139095040
unfolding of_bits div
returns-then-w-gt2139095040 c = nan_of binary32 c.args.w c.if-w-gt2139095040.true
