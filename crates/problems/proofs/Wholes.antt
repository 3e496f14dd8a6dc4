-- The records point by point are those of the definition, and they are few: each point has at most five.
use mathlib.Core.Path.{◌≡◌, refl, ap, ◌∙◌}
use mathlib.Core.Bool.{Bool, true, false, not, cond}
use mathlib.Core.List.{List, [], ◌∷◌, ◌++◌, append_assoc}
use Prim.Native.Nat.{ℕ, suc, ◌*◌, ◌≤◌}
use native.Mathlib.Omega.{arith}
use lib.Dec.{ltb, eqb}
use lib.Ieee.{binary32, of_bits}
use lib.ListN.{length, length-append}
use native.Mathlib.Nat.{suc-ne-zero}
use Rattle.beats.specs.declared.Beat.{Beat}
use Rattle.beats.specs.Beats.{zero_beat}
use Rattle.beats.specs.Sums.{below_beat}
use Rattle.meter.specs.declared.MeterPoint.{MeterPoint}
use Rattle.meter.specs.Fits.{good_den}
use Rattle.problems.specs.Problems.{Problem, Listed, problem_if, meter_point, meter_points, meter_problems, sound_tempo, tempo_bits, tempo_points_after, is_zero, tempo_problems, many_meters, later_bar, not_above, many_tempos, later_beat}
use Rattle.problems.specs.Passes.{tempo_first, tempo_later, tempo_at, tempo_from, meter_head, records_at, meter_from}
use Rattle.problems.proofs.Points.{head_later, tempo_later_lem}

-- ---- a tempo map

tempo_after_lem : (n index : ℕ) (before : Beat) (points : List Listed) → tempo_from n (suc index) before points ≡ tempo_points_after (suc index) before points
unfolding tempo_from tempo_later tempo_points_after
tempo_after_lem n index before [] = refl
tempo_after_lem n index before (point ∷ rest) =
    ap (λ (l : List Problem). l ++ tempo_from n (suc (suc index)) point.at rest) (tempo_later_lem n (suc index) before point (suc-ne-zero index))
    ∙ append_assoc (tempo_bits (suc index) point) (not_above (suc index) before point.at) (tempo_from n (suc (suc index)) point.at rest)
    ∙ ap (λ (l : List Problem). tempo_bits (suc index) point ++ (not_above (suc index) before point.at ++ l)) (tempo_after_lem n (suc index) point.at rest)

pub tempo_whole : (before : Beat) (points : List Listed) → tempo_from (length points) 0 before points ≡ tempo_problems points
unfolding tempo_from tempo_at tempo_first tempo_problems
tempo_whole before [] = refl
tempo_whole before (point ∷ rest) = simp (append_assoc, tempo_after_lem (length (point ∷ rest)) 0 point.at rest)

-- ---- a meter map

meter_after_lem : (n index low : ℕ) (points : List MeterPoint) → meter_from n (suc index) low points ≡ meter_points (suc index) low points
unfolding meter_from records_at meter_points
meter_after_lem n index low [] = refl
meter_after_lem n index low (point ∷ rest) =
    ap (λ (l : List Problem). (l ++ meter_point (suc index) low point) ++ meter_from n (suc (suc index)) (suc point.bar) rest) (head_later n (suc index) point.bar (suc-ne-zero index))
    ∙ ap (λ (l : List Problem). meter_point (suc index) low point ++ l) (meter_after_lem n (suc index) (suc point.bar) rest)

pub meter_whole : (points : List MeterPoint) → meter_from (length points) 0 0 points ≡ meter_problems points
unfolding meter_from records_at meter_head meter_problems meter_points
meter_whole [] = refl
meter_whole (point ∷ rest) = simp (append_assoc, meter_after_lem (length (point ∷ rest)) 0 (suc point.bar) rest)

-- ---- how many they are

when_few : (found : Bool) (code index value : ℕ) → length (problem_if found code index value) ≤ 1
when_few true code index value = omega arith
when_few false code index value = omega arith

tempo_bits_few : (index : ℕ) (point : Listed) → length (tempo_bits index point) ≤ 1
unfolding tempo_bits
tempo_bits_few index point = when_few (not (sound_tempo (of_bits binary32 point.bits))) 8 index point.bits

tempo_at_few : (n index : ℕ) (before : Beat) (point : Listed) → length (tempo_at n index before point) ≤ 5
unfolding tempo_at tempo_first tempo_later
tempo_at_few n index before point = by_place (eqb index 0)
  where
    by_place : (first : Bool) → length (cond first (tempo_first n point) (tempo_later index before point)) ≤ 5
    by_place true = omega (arith, length-append (many_tempos n) (later_beat point.at ++ tempo_bits 0 point), length-append (later_beat point.at) (tempo_bits 0 point), when_few (ltb 1024 n) 6 0 n, when_few (not (is_zero point.at)) 7 0 0, tempo_bits_few 0 point)
    by_place false = omega (arith, length-append (tempo_bits index point) (not_above index before point.at), tempo_bits_few index point, when_few (not (below_beat before point.at)) 9 index 0)

tempo_from_few : (n index : ℕ) (before : Beat) (points : List Listed) → length (tempo_from n index before points) ≤ 5 * length points
unfolding tempo_from
tempo_from_few n index before [] = omega arith
tempo_from_few n index before (point ∷ rest) = omega (arith, length-append (tempo_at n index before point) (tempo_from n (suc index) point.at rest), tempo_at_few n index before point, tempo_from_few n (suc index) point.at rest)

pub tempo_few : (points : List Listed) → length (tempo_problems points) ≤ 5 * length points
tempo_few points = omega (arith, ap length (tempo_whole zero_beat points), tempo_from_few (length points) 0 zero_beat points)

meter_at_few : (n index low : ℕ) (point : MeterPoint) → length (records_at n index low point) ≤ 5
unfolding records_at meter_head meter_point
meter_at_few n index low point =
    omega (
      arith,
      length-append (meter_head n index point.bar) (meter_point index low point),
      by_place (eqb index 0),
      length-append (problem_if (eqb point.numerator 0) 3 index 0) (problem_if (not (good_den point.denominator)) 4 index point.denominator ++ problem_if (ltb point.bar low) 5 index 0),
      length-append (problem_if (not (good_den point.denominator)) 4 index point.denominator) (problem_if (ltb point.bar low) 5 index 0),
      when_few (eqb point.numerator 0) 3 index 0,
      when_few (not (good_den point.denominator)) 4 index point.denominator,
      when_few (ltb point.bar low) 5 index 0,
    )
  where
    by_place : (first : Bool) → length (cond first (many_meters n ++ later_bar point.bar) []) ≤ 2
    by_place true = omega (arith, length-append (many_meters n) (later_bar point.bar), when_few (ltb 256 n) 1 0 n, when_few (not (eqb point.bar 0)) 2 0 0)
    by_place false = omega arith

meter_from_few : (n index low : ℕ) (points : List MeterPoint) → length (meter_from n index low points) ≤ 5 * length points
unfolding meter_from
meter_from_few n index low [] = omega arith
meter_from_few n index low (point ∷ rest) = omega (arith, length-append (records_at n index low point) (meter_from n (suc index) (suc point.bar) rest), meter_at_few n index low point, meter_from_few n (suc index) (suc point.bar) rest)

pub meter_few : (points : List MeterPoint) → length (meter_problems points) ≤ 5 * length points
meter_few points = omega (arith, ap length (meter_whole points), meter_from_few (length points) 0 0 points)
