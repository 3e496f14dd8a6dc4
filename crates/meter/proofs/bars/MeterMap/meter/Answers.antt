-- The loop keeps the meter: the points that are left give the same answer.
use Rattle.std.proofs.Common.{sym, ◌∙◌}
use Rattle.meter.proofs.Scanning.{last_end, last_again}
use Rattle.meter.proofs.bars.MeterMap.meter.Goals as goal

pub loop-point-preserved : goal.loop-point-preserved
loop-point-preserved c =
    last_again _ _ c.in-Some.point c.in-Some.ensures.steps c.args.bar c.loop-point.found _ _ c.later_point-found.ensures c.loop-point.invariant

pub returns : goal.returns
returns c = sym (last_end _ c.in-None.ensures.steps.0 c.args.bar c.loop-point.found) ∙ c.loop-point.invariant
