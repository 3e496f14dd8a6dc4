-- A tempo map, seen as its points, and what the walk over them is given: a test and an answer.
use Rattle.std.specs.Prelude.{◌≡◌, ℕ, Bool, List, ℤ, Float}
use Rattle.beats.specs.declared.Beat.{Beat}
use Rattle.tempo.specs.declared.map.TempoMap.{TempoMap}
use Rattle.tempo.specs.Tempos.{TempoPoint, tempo_points}

abbrev pub points : TempoMap → List TempoPoint
points map = tempo_points map.nums.now map.dens.now map.tempos.now

-- the beat of a numerator and a denominator
abbrev pub beat_of : ℤ → ℕ → Beat
beat_of num den = record { num = num; den = den }

-- what may come of a test's call is what `ends` says
abbrev pub Decides : (Float → Float → Bool → Type 0) → (Float → Float → Bool) → Type 0
Decides post ends = (at there : Float) (b : Bool) → post at there b → b ≡ ends at there

-- and of an answer's call, what `gives` gives
abbrev pub Gives : (Float → Float → Float → Float → Type 0) → (Float → Float → Float → Float) → Type 0
Gives post gives = (secs from tempo x : Float) → post secs from tempo x → x ≡ gives secs from tempo
