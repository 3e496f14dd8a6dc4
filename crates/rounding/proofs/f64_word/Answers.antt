-- `rounding::f64_word` meets its contract: only a NaN's word is written by hand.
use Rattle.std.proofs.Common.{true, false, sym, ◌∙◌}
use lib.Ieee.{binary64}
use Rattle.rounding.proofs.Nan.{is_nan_lem, no_nan, differs}
use Rattle.rounding.proofs.Words.{nan_word}
use Rattle.rounding.proofs.f64_word.Goals as goal

pub float_to_bits-result : goal.float_to_bits-result
float_to_bits-result c = no_nan c.args.x (differs c.args.x false (sym c.is_nan.ensures.value ∙ c.if-is_nan.false))

pub returns-then-is_nan : goal.returns-then-is_nan
returns-then-is_nan c = nan_word binary64 c.args.x (is_nan_lem c.args.x (differs c.args.x true (sym c.is_nan.ensures.value ∙ c.if-is_nan.true)))
