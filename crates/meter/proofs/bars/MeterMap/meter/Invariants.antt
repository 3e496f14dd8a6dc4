-- The loop keeps the meter: the points that are left give the same answer.
use Rattle.std.proofs.Common.{◌≡◌}
use Rattle.meter.specs.Meters.{points_of, meter_at, last_at}
use Rattle.meter.proofs.bars.MeterMap.meter.Given as goal

abbrev pub invariant-loop-point : goal.invariant-loop-point
invariant-loop-point l = last_at (points_of l.point-iterator.words.now) l.bar l.found ≡ meter_at (points_of l.self.words.now) l.self.default l.bar
