-- The loop keeps that the points that are left ascend from the last bar exactly where the whole map ascends.
use Rattle.std.proofs.Common.{◌≡◌}
use Rattle.meter.specs.Meters.{points_of}
use Rattle.meter.specs.Starts.{ascends}
use Rattle.meter.proofs.bars.MeterMap.ascending.Given as goal

abbrev pub invariant-loop-point : goal.invariant-loop-point
invariant-loop-point l = ascends l.low (points_of l.point-iterator.words.now) ≡ ascends 0 (points_of l.self.words.now)
