-- The loop keeps the next change: the points that are left give the same answer.
use Rattle.std.proofs.Common.{sym, ◌∙◌}
use Rattle.meter.proofs.Scanning.{next_end, next_again}
use Rattle.meter.proofs.bars.MeterMap.next_change.Goals as goal

pub loop-point-preserved : goal.loop-point-preserved
loop-point-preserved c =
    next_again _ _ c.in-Some.point c.in-Some.ensures.steps c.args.bar c.loop-point.least _ _ c.nearer_change-least.ensures c.loop-point.invariant

pub returns : goal.returns
returns c = sym (next_end _ c.in-None.ensures.steps.0 c.args.bar c.loop-point.least) ∙ c.loop-point.invariant
