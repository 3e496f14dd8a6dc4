-- A map is sound where each point that a scan of it meets is: the points that are left give the same answer.
use mathlib.Core.Path.{◌≡◌, sym, ap, ◌∙◌}
use mathlib.Core.Bool.{Bool, true, false, ◌&&◌, and_assoc}
use Prim.Native.Nat.{ℕ, suc, ◌+◌, ◌/◌, ◌<◌, ◌≤◌}
use mathlib.Core.List.{List, [], ◌∷◌}
use native.Mathlib.Omega.{arith}
use lib.Dec.{leb, ltb}
use lib.ListN.{length}
use borrow.Author.Tests.{le-leb, lt-leb}
use native.Mathlib.Numerals.{add-one}
use Rattle.meter.specs.declared.MeterPoint.{MeterPoint}
use Rattle.meter.specs.Meters.{points_of}
use Rattle.meter.specs.Fits.{good_den, first_zero, sound_from, sound_map}
use Rattle.meter.proofs.Laws.{points_length}

-- ---- the scan

pub sound_end : (map : List MeterPoint) (low : ℕ) → map ≡ [] → true ≡ sound_from low map
unfolding sound_from
sound_end map low e = sym (ap (sound_from low) e)

module _ (map : List MeterPoint) (low : ℕ) (point : MeterPoint) (rest : List MeterPoint) (step : map ≡ point ∷ rest) where
  -- the point is sound
  abbrev pub here : Bool
  here = leb low point.bar && (ltb 0 point.numerator && good_den point.denominator)

  sound_step : sound_from low map ≡ here && sound_from (suc point.bar) rest
  unfolding sound_from
  sound_step = ap (sound_from low) step ∙ simp and_assoc

  pub sound_not : here ≡ false → false ≡ sound_from low map
  sound_not e = sym (sound_step ∙ ap (λ (t : Bool). t && sound_from (suc point.bar) rest) e)

  pub sound_again : here ≡ true → sound_from (point.bar + 1) rest ≡ sound_from low map
  sound_again e =
      ap (λ (k : ℕ). sound_from k rest) (add-one point.bar)
      ∙ sym (sound_step ∙ ap (λ (t : Bool). t && sound_from (suc point.bar) rest) e)

-- ---- the map

module _ (words : List ℕ) where
  abbrev map : List MeterPoint
  map = points_of words

  points_count : length words / 3 ≡ length map
  points_count = omega (arith, points_length words)

  pub map_many : 256 < length words / 3 → false ≡ sound_map map
  unfolding sound_map
  map_many h = sym (ap (λ (t : Bool). t && (first_zero map && sound_from 0 map)) (lt-leb (length map) 256 (omega (arith, points_count))))

  module _ (h : length words / 3 ≤ 256) where
    few : leb (length map) 256 ≡ true
    few = le-leb (length map) 256 (omega (arith, points_count))

    pub map_late : first_zero map ≡ false → false ≡ sound_map map
    unfolding sound_map
    map_late e = sym (λ i. few i && (e i && sound_from 0 map))

    pub map_rest : (r : Bool) → first_zero map ≡ true → r ≡ sound_from 0 map → r ≡ sound_map map
    unfolding sound_map
    map_rest r e q = q ∙ sym (λ i. few i && (e i && sound_from 0 map))
