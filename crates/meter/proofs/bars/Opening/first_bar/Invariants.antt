-- The loop keeps what halving gives between lo and hi.
use mathlib.Core.Path.{◌≡◌}
use Prim.Native.Nat.{◌≤◌, ◌<◌, ◌-◌}
use Rattle.meter.specs.Meters.{points_of}
use Rattle.meter.specs.Counts.{halving, reaches}
use Rattle.meter.proofs.bars.Opening.first_bar.Given as goal

abbrev pub invariant-loop-lo : goal.invariant-loop-lo
invariant-loop-lo l =
    (l.lo < 4294967295) × ((l.hi ≤ l.upper) × (halving (reaches (points_of l.self.map.words.now) l.self.map.default l.self.map.pickup l.beat) 32 l.lo l.hi ≡ halving (reaches (points_of l.self.map.words.now) l.self.map.default l.self.map.pickup l.beat) 32 0 l.upper))

abbrev pub decreases-loop-lo : goal.decreases-loop-lo
decreases-loop-lo l = l.hi - l.lo
