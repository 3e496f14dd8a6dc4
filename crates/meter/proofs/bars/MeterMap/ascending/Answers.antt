-- The loop keeps that the points that are left ascend from the last bar exactly where the whole map ascends.
use Rattle.std.proofs.Common.{sym, ◌∙◌}
use Rattle.meter.proofs.Scanning.{ascends_end, ascends_not, ascends_again}
use Rattle.meter.proofs.bars.MeterMap.ascending.Goals as goal

pub returns-then-point-low : goal.returns-then-point-low
returns-then-point-low c =
    sym (ascends_not _ _ c.in-Some.point c.in-Some.ensures.steps c.loop-point.low c.if-point-low.true) ∙ c.loop-point.invariant

pub loop-point-preserved : goal.loop-point-preserved
loop-point-preserved c =
    ascends_again _ _ c.in-Some.point c.in-Some.ensures.steps c.loop-point.low c.if-point-low.false ∙ c.loop-point.invariant

pub returns : goal.returns
returns c = sym (ascends_end _ c.in-None.ensures.steps.0 c.loop-point.low) ∙ c.loop-point.invariant
