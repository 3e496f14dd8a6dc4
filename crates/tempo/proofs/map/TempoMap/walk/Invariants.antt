-- The loop's invariant: the walk over the points from i on, from where it stands, answers as the whole walk does.
use Rattle.std.proofs.Common.{◌≡◌, Bool}
use Rattle.std.specs.Float.Ieee.{Float}
use Rattle.tempo.specs.Tempos.{walk, whole_walk}
use Rattle.tempo.specs.Maps.{points, Decides}
use Rattle.tempo.proofs.Walking.{points_from}
use Rattle.tempo.proofs.map.TempoMap.walk.Given as goal

abbrev pub invariant-loop-i : goal.invariant-loop-i
invariant-loop-i g l =
    (ends : Float → Float → Bool) (gives : Float → Float → Float → Float) → Decides (goal.S-post g l.stop) ends
    → walk ends gives (points_from l.self.nums.now l.self.dens.now l.self.tempos.now l.i) l.secs l.from l.tempo ≡ whole_walk ends gives (points l.self)
