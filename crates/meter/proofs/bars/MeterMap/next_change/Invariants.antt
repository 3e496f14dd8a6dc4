-- The loop keeps the next change: the points that are left give the same answer.
use Rattle.std.proofs.Common.{◌≡◌}
use Rattle.meter.specs.Meters.{points_of, next_change}
use Rattle.meter.proofs.bars.MeterMap.next_change.Given as goal

abbrev pub invariant-loop-point : goal.invariant-loop-point
invariant-loop-point l = next_change (points_of l.point-iterator.words.now) l.bar l.least ≡ next_change (points_of l.self.words.now) l.bar l.end
