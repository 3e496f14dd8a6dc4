-- The loop keeps the start: the segments that are left, from where the next one starts, lead to it.
use mathlib.Core.Path.{◌≡◌}
use Prim.Native.Nat.{◌<◌, ◌≤◌, ◌-◌}
use Rattle.meter.specs.Meters.{points_of}
use Rattle.meter.specs.Starts.{segments, start_of}
use Rattle.meter.proofs.bars.Opening.by_segments.Given as goal

abbrev pub invariant-loop-from : goal.invariant-loop-from
invariant-loop-from l =
    (0 < l.from) × ((l.from ≤ l.bar) × (segments (points_of l.self.map.words.now) l.self.map.default l.self.map.pickup (l.bar - l.from) l.from l.bar l.at ≡ start_of (points_of l.self.map.words.now) l.self.map.default l.self.map.pickup l.bar))

abbrev pub decreases-loop-from : goal.decreases-loop-from
decreases-loop-from l = l.bar - l.from
