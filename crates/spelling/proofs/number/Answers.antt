-- The number of digits up to 2^32 - 1, which a u32 holds.
use Rattle.std.proofs.Common.{sym, ◌∙◌, arith}
use Rattle.spelling.proofs.Reading.{some_most}
use Rattle.spelling.specs.Words.{number_of}
use Rattle.spelling.proofs.number.Goals as goal

pub returns-in_err-n : goal.returns-in_err-n
unfolding number_of
returns-in_err-n c = c.from_residual.ensures ∙ sym c.in_err-n.was ∙ c.some.ensures

pub overflow_cast-result : goal.overflow_cast-result
overflow_cast-result c = omega (arith, some_most _ _ _ (sym c.in_ok-n.was ∙ c.some.ensures))

pub returns : goal.returns
unfolding number_of
returns c = sym c.in_ok-n.was ∙ c.some.ensures
