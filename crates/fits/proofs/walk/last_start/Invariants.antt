-- The loop keeps the start of bar 2^31: the points that are left lead to it.
use Rattle.std.proofs.Common.{◌≡◌}
use Rattle.numbers.specs.Answers.{accepted}
use Rattle.meter.specs.Meters.{points_of}
use Rattle.fits.specs.Decision.{walked}
use Rattle.fits.proofs.walk.last_start.Given as goal

abbrev pub invariant-loop-point : goal.invariant-loop-point
invariant-loop-point l =
    walked (points_of l.point-iterator.words.now) l.bar l.meter (accepted l.at) ≡ walked (points_of l.map.words.now) 1 l.initial.meter (accepted l.initial.at)
