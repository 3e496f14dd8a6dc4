-- The part of a map that a walk has left begins with the point that stands next, and so does the part that a test has left.
use mathlib.Core.Path.{◌≡◌, refl, ap}
use Rattle.std.specs.List.{list_all, zip}
use mathlib.Core.Bool.{Bool, true, false, ◌&&◌}
use mathlib.Core.List.{List, [], ◌∷◌}
use Prim.Native.Nat.{ℕ, ◌+◌, ◌≤◌, ◌<◌}
use native.Mathlib.Numerals.{add-one}
use native.Mathlib.Omega.{arith}
use lib.IntN.{ℤ, pos}
use lib.Ieee.{Float}
use lib.ListN.{length, get_or, drop, drop_of_length-le}
use lib.Seq.{drop-cons}
use Rattle.rounding.specs.Floats.{float0}
use Rattle.beats.specs.Beats.{is_beat}
use Rattle.beats.specs.Frames.{beat_float}
use Rattle.tempo.specs.Tempos.{TempoPoint, Parallel, tempo_of, tempo_points, elapsed, walk, whole_walk}
use Rattle.tempo.specs.Answers.{all_beats}

-- ---- the test of the beats

abbrev pub is_beat_of : ℤ × ℕ → Bool
is_beat_of pair = is_beat (record { num = pair.0; den = pair.1 })

-- the pairs of a numerator and its denominator, one after another
pub all_pairs : (nums : List ℤ) (dens : List ℕ) → list_all is_beat_of (zip nums dens) ≡ all_beats nums dens
unfolding all_beats
all_pairs [] dens = refl
all_pairs (num ∷ nums) [] = refl
all_pairs (num ∷ nums) (den ∷ dens) = ap (λ b. is_beat (record { num = num; den = den }) && b) (all_pairs nums dens)

-- ---- a walk, with the points from index i on left

abbrev pub points_from : List ℤ → List ℕ → List ℕ → ℕ → List TempoPoint
points_from nums dens tempos i = tempo_points (drop i nums) (drop i dens) (drop i tempos)

-- without numerators there are no points
pub no_points : (nums : List ℤ) (dens tempos : List ℕ) → length nums ≡ 0 → tempo_points nums dens tempos ≡ []
unfolding tempo_points
no_points [] dens tempos e = refl
no_points (num ∷ nums) dens tempos e = absurd (omega arith)

module _ (nums : List ℤ) (dens tempos : List ℕ) (even : Parallel nums dens tempos) where
  -- with one at index i, its point stands there
  pub points_step : (i : ℕ) → i < length nums
      → points_from nums dens tempos i ≡ record { at = beat_float (get_or nums i (pos 0)) (get_or dens i 0); tempo = tempo_of (get_or tempos i 0) } ∷ points_from nums dens tempos (i + 1)
  unfolding tempo_points
  points_step i h =
      let k : i < length dens = omega (arith, even) in
      let l : i < length tempos = omega (arith, even) in
      rw (add-one, drop-cons nums i (pos 0), drop-cons dens i 0, drop-cons tempos i 0)

  module _ (stop : Float → Float → Bool) (final : Float → Float → Float → Float) where
    -- it begins with the points from index 1 on
    pub begins : 0 < length nums → (tempo : Float) → tempo ≡ tempo_of (get_or tempos 0 0)
        → walk stop final (points_from nums dens tempos 1) float0 float0 tempo ≡ whole_walk stop final (tempo_points nums dens tempos)
    unfolding whole_walk
    begins h tempo is = rw (points_step 0 h, is)

    module _ (i : ℕ) (secs from tempo answer : Float) (here : walk stop final (points_from nums dens tempos i) secs from tempo ≡ answer) where
      pub ends : length nums ≤ i → final secs from tempo ≡ answer
      unfolding walk tempo_points
      ends h = rw (drop_of_length-le nums h) at here

      -- the point's numerator, beat and tempo, as the program has them
      module _ (h : i < length nums) (num : ℤ) (reads : num ≡ get_or nums i (pos 0)) (at : Float) (is : at ≡ beat_float num (get_or dens i 0)) where
        pub stops : stop at (elapsed secs from at tempo) ≡ true → final secs from tempo ≡ answer
        unfolding walk
        stops t = rw (points_step i h, ← reads, ← is, t) at here

        pub goes : (next : Float) → next ≡ tempo_of (get_or tempos i 0) → stop at (elapsed secs from at tempo) ≡ false
            → walk stop final (points_from nums dens tempos (i + 1)) (elapsed secs from at tempo) at next ≡ answer
        unfolding walk
        goes next f t = rw f (rw (points_step i h, ← reads, ← is, t) at here)
