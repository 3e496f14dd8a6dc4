-- The test is that of the definition.
use mathlib.Core.Path.{sym}
use Rattle.meter.proofs.Walking.{later_in, later_out}
use Rattle.meter.proofs.bars.later_point.Goals as goal

pub returns-then-at-bar : goal.returns-then-at-bar
returns-then-at-bar c = sym (later_in _ _ _ c.if-at-bar.true)

pub returns-else-at-bar : goal.returns-else-at-bar
returns-else-at-bar c = sym (later_out _ _ _ c.if-at-bar.false)
