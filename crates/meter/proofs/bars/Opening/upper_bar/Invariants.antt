-- The loop keeps that hi is a power of two up to 2^31, and what doubling makes of it.
use Prim.Native.Nat.{◌-◌}
use Rattle.meter.specs.Meters.{points_of}
use Rattle.meter.specs.Counts.{doubling, reaches}
use Rattle.meter.proofs.Searching.{Doubled}
use Rattle.meter.proofs.bars.Opening.upper_bar.Given as goal

abbrev pub invariant-loop-beat : goal.invariant-loop-beat
invariant-loop-beat l = Doubled (reaches (points_of l.self.map.words.now) l.self.map.default l.self.map.pickup l.beat) (doubling (reaches (points_of l.self.map.words.now) l.self.map.default l.self.map.pickup l.beat) 32 1) l.hi

abbrev pub decreases-loop-beat : goal.decreases-loop-beat
decreases-loop-beat l = 4294967296 - l.hi
