-- The tests are those of the definition.
use mathlib.Core.Path.{sym}
use Rattle.meter.proofs.Walking.{nearer_first, nearer_last, nearer_else}
use Rattle.meter.proofs.bars.nearer_change.Goals as goal

pub returns-then-change-end : goal.returns-then-change-end
returns-then-change-end c = nearer_first _ _ _ c.if-bar-change.true c.if-change-end.true

pub returns-else-change-end : goal.returns-else-change-end
returns-else-change-end c = nearer_last _ _ _ c.if-bar-change.true c.if-change-end.false

pub returns-else-bar-change : goal.returns-else-bar-change
returns-else-bar-change c = sym (nearer_else _ _ _ c.if-bar-change.false)
