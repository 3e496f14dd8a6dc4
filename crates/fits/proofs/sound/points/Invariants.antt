-- The loop keeps that the points that are left are sound from the last bar on exactly where the whole map is.
use Rattle.std.proofs.Common.{◌≡◌}
use Rattle.meter.specs.Meters.{points_of}
use Rattle.meter.specs.Fits.{sound_from}
use Rattle.fits.proofs.sound.points.Given as goal

abbrev pub invariant-loop-next : goal.invariant-loop-next
invariant-loop-next l = sound_from l.low (points_of l.next-iterator.words.now) ≡ sound_from 0 (points_of l.words)
