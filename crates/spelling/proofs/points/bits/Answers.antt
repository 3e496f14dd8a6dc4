-- The number of hexadecimal digits up to 2^32 - 1, which a u32 holds.
use Rattle.std.proofs.Common.{sym, ◌∙◌, arith}
use Rattle.spelling.proofs.Reading.{most}
use Rattle.spelling.specs.Words.{bits_tempo}
use Rattle.spelling.proofs.points.bits.Goals as goal

pub returns-in_err-n : goal.returns-in_err-n
unfolding bits_tempo
returns-in_err-n c = c.from_residual.ensures ∙ sym c.in_err-n.was ∙ c.behind.ensures

pub overflow_cast-result : goal.overflow_cast-result
overflow_cast-result c = omega (arith, most _ _ _ _ _ (sym c.in_ok-n.was ∙ c.behind.ensures))

pub returns : goal.returns
unfolding bits_tempo
returns c = sym c.in_ok-n.was ∙ c.behind.ensures
