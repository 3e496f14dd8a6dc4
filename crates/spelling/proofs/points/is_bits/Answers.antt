-- The length, and the first two bytes.
use Rattle.std.proofs.Common.{◌∙◌}
use borrow.Author.Tests.{ne_eqb}
use Rattle.spelling.proofs.Tempos.{not_ten, by_start}
use Rattle.spelling.proofs.points.is_bits.Goals as goal

pub returns-then-word-eq10 : goal.returns-then-word-eq10
returns-then-word-eq10 c = c.starts_with.ensures.value ∙ by_start _ c.if-word-eq10.true

pub returns-else-word-eq10 : goal.returns-else-word-eq10
returns-else-word-eq10 c = ne_eqb _ _ c.if-word-eq10.false ∙ not_ten _ c.if-word-eq10.false
