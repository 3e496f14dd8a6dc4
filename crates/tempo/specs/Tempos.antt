-- The walks over a tempo map: binary64 operations, each rounded once, in the order of document 01.
use Rattle.std.specs.Prelude.{ℕ, ◌≡◌, Bool, cond, List, [], ◌∷◌, ℤ, length, Float}
use Rattle.std.specs.Float.{binary32, binary64}
use Rattle.std.specs.Float.Ieee.{of_bits, add, sub, mul, div, le, lt}
use Rattle.rounding.specs.Floats.{maximum, float0, float1}
use Rattle.beats.specs.Frames.{float60, beat_float, seconds_at}

-- ---- the map

-- a point as the walks see it: its beat, num / den, and the tempo from there on
pub record TempoPoint : Type 0 where
  pub at : Float
  pub tempo : Float

-- three lists of one length
pub record Parallel (nums : List ℤ) (dens tempos : List ℕ) : Type 0 where
  pub even_dens : length dens ≡ length nums
  pub even_tempos : length tempos ≡ length nums

-- the tempo of given bits, in beats a minute, and 1 where it is below 1 or a NaN
abbrev pub tempo_of : ℕ → Float
tempo_of bits = maximum (of_bits binary32 bits) float1

-- the points of three parallel lists: numerators, denominators, bits of tempos. (The calls refuse lists of unlike length by 3.)
unfoldable pub tempo_points : List ℤ → List ℕ → List ℕ → List TempoPoint
tempo_points [] dens tempos = []
tempo_points (num ∷ nums) [] tempos = []
tempo_points (num ∷ nums) (den ∷ dens) [] = []
tempo_points (num ∷ nums) (den ∷ dens) (bits ∷ tempos) = record { at = beat_float num den; tempo = tempo_of bits } ∷ tempo_points nums dens tempos

-- ---- one stretch of one tempo, from `secs` seconds at the beat `from`

-- the seconds at a beat: secs + (to - from) * 60 / tempo
abbrev pub elapsed : Float → Float → Float → Float → Float
elapsed secs from to tempo = add binary64 secs (seconds_at (sub binary64 to from) tempo)

-- the beat at a second: from + (seconds - secs) * tempo / 60
abbrev pub beat_after : Float → Float → Float → Float → Float
beat_after seconds secs from tempo = add binary64 from (div binary64 (mul binary64 (sub binary64 seconds secs) tempo) float60)

-- ---- the walk

-- `stop`, of a point's beat and of the seconds there, says whether the walk ends before that point; `final`, of the seconds, the beat and the tempo
-- where it stands, is its answer
module _ (stop : Float → Float → Bool) (final : Float → Float → Float → Float) where
  unfoldable pub walk : List TempoPoint → Float → Float → Float → Float
  walk [] secs from tempo = final secs from tempo
  walk (point ∷ rest) secs from tempo =
      let there = elapsed secs from point.at tempo in
      cond (stop point.at there) (final secs from tempo) (walk rest there point.at point.tempo)

  -- it begins at beat 0, whatever the first point says, with the first point's tempo. (A map of no points is refused by 5.)
  unfoldable pub whole_walk : List TempoPoint → Float
  whole_walk [] = float0
  whole_walk (first ∷ rest) = walk rest float0 float0 first.tempo

-- to a beat: stops at beat <= point, and answers the seconds there
abbrev pub reaches : Float → Float → Float → Bool
reaches beat at there = le beat at

abbrev pub seconds_to : Float → Float → Float → Float → Float
seconds_to beat secs from tempo = elapsed secs from beat tempo

abbrev pub seconds_at_beat : List TempoPoint → Float → Float
seconds_at_beat points beat = whole_walk (reaches beat) (seconds_to beat) points

-- stops at beat < point
abbrev pub tempo_at_beat : List TempoPoint → Float → Float
tempo_at_beat points beat = whole_walk (λ at there. lt beat at) (λ secs from tempo. tempo) points

-- stops where the seconds of the point are above the seconds asked
abbrev pub beat_at_seconds : List TempoPoint → Float → Float
beat_at_seconds points seconds = whole_walk (λ at there. lt seconds there) (λ secs from tempo. beat_after seconds secs from tempo) points
