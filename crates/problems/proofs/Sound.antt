-- A meter map has no problems exactly where it is sound: whether a list of records is empty is a test, and it is the test of soundness, part by part.
use mathlib.Core.Path.{◌≡◌, refl, sym, ap, ◌∙◌}
use mathlib.Core.Bool.{Bool, true, false, not, ◌&&◌, not-not}
use mathlib.Core.List.{List, [], ◌∷◌, ◌++◌}
use Prim.Native.Nat.{ℕ, zero, suc}
use native.Mathlib.Omega.{arith}
use borrow.Author.Tests.{lt-ltb, le-leb, lt-leb, le-ltb}
use lib.Dec.{ltb, leb, eqb, eqb-suc-zero}
use Rattle.numbers.proofs.Laws.{by_order}
use Rattle.meter.specs.declared.MeterPoint.{MeterPoint}
use Rattle.meter.specs.Fits.{good_den, sound_from, first_zero, sound_map}
use Rattle.problems.specs.Problems.{Problem, problem_if, meter_point, meter_points, first_bar, meter_problems}

-- ---- a list of records is empty

abbrev none : List Problem → Bool
none [] = true
none (problem ∷ rest) = false

none_empty : (problems : List Problem) → none problems ≡ true → problems ≡ []
none_empty [] e = refl
none_empty (problem ∷ rest) e = cc

none_both : (xs ys : List Problem) → none (xs ++ ys) ≡ (none xs && none ys)
none_both [] ys = refl
none_both (x ∷ xs) ys = refl

none_when : (found : Bool) (code index value : ℕ) → none (problem_if found code index value) ≡ not found
none_when true code index value = refl
none_when false code index value = refl

-- ---- the tests

above : (n : ℕ) → not (eqb n 0) ≡ ltb 0 n
above zero = refl
above (suc n) = rw (eqb-suc-zero n, lt-ltb 0 (suc n) (omega arith))

not_below : (a b : ℕ) → not (ltb a b) ≡ leb b a
not_below a b = by_order a b (λ h. rw (lt-ltb a b h, lt-leb b a h)) (λ h. rw (le-ltb a b h, le-leb b a h))

-- the definitions test in different orders
turned : (low numerator denominator rest : Bool) → ((numerator && (denominator && low)) && rest) ≡ (low && (numerator && (denominator && rest)))
turned true true true rest = refl
turned true true false rest = refl
turned true false denominator rest = refl
turned false true true rest = refl
turned false true false rest = refl
turned false false denominator rest = refl

-- ---- the points, and the map

point_sound : (index low : ℕ) (point : MeterPoint) → none (meter_point index low point) ≡ (ltb 0 point.numerator && (good_den point.denominator && leb low point.bar))
unfolding meter_point
point_sound index low point = simp (none_both, none_when, above, not-not, not_below)

points_sound : (index low : ℕ) (map : List MeterPoint) → none (meter_points index low map) ≡ sound_from low map
unfolding meter_points sound_from
points_sound index low [] = refl
points_sound index low (point ∷ rest) =
    none_both (meter_point index low point) (meter_points (suc index) (suc point.bar) rest)
    ∙ ap (λ (t : Bool). t && none (meter_points (suc index) (suc point.bar) rest)) (point_sound index low point)
    ∙ turned (leb low point.bar) (ltb 0 point.numerator) (good_den point.denominator) (none (meter_points (suc index) (suc point.bar) rest))
    ∙ ap (λ (t : Bool). leb low point.bar && (ltb 0 point.numerator && (good_den point.denominator && t))) (points_sound (suc index) (suc point.bar) rest)

first_sound : (map : List MeterPoint) → none (first_bar map) ≡ first_zero map
first_sound [] = refl
first_sound (point ∷ rest) = none_when (not (eqb point.bar 0)) 2 0 0 ∙ not-not (eqb point.bar 0)

map_sound : (map : List MeterPoint) → none (meter_problems map) ≡ sound_map map
unfolding meter_problems sound_map
map_sound map = simp (none_both, none_when, not_below, first_sound, points_sound)

-- no problems, then sound; and back
pub no_problems_sound : (map : List MeterPoint) → meter_problems map ≡ [] → sound_map map ≡ true
no_problems_sound map e = sym (map_sound map) ∙ ap none e

pub sound_no_problems : (map : List MeterPoint) → sound_map map ≡ true → meter_problems map ≡ []
sound_no_problems map e = none_empty (meter_problems map) (map_sound map ∙ e)
