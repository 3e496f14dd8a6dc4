-- The loop keeps what the pass gives: over the points that are left it is what it is over the whole map.
use Rattle.std.proofs.Common.{◌≡◌}
use Rattle.meter.specs.Meters.{points_of}
use Rattle.meter.proofs.Passing.{pass}
use Rattle.meter.proofs.bars.Opening.by_pass.Given as goal

abbrev pub invariant-loop-point : goal.invariant-loop-point
invariant-loop-point l = pass (points_of l.point-iterator.words.now) l.from l.bar l.meter l.at ≡ pass (points_of l.self.map.words.now) 1 l.bar l.initial.meter l.initial.at
