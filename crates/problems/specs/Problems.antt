-- The problems of a meter map and of a tempo map, in the order of document 01.
use Rattle.std.specs.Prelude.{Bool, false, not, cond, ◌&&◌, List, [], ◌∷◌, ◌++◌, ℕ, suc, ◌/◌, leb, ltb, eqb, ℤ, nat_abs, Float, length}
use Rattle.std.specs.Float.{inf, binary32}
use Rattle.std.specs.Float.Ieee.{lt, of_bits}
use Rattle.rounding.specs.Floats.{float0}
use Rattle.beats.specs.declared.Beat.{Beat}
use Rattle.beats.specs.Sums.{below_beat}
use Rattle.meter.specs.declared.MeterPoint.{MeterPoint}
use Rattle.meter.specs.Fits.{good_den}

-- a record: the code, the point's index, and the value that goes with some codes
pub record Problem : Type 0 where
  pub code : ℕ
  pub index : ℕ
  pub value : ℕ

-- the problem, where there is one
abbrev pub problem_if : Bool → ℕ → ℕ → ℕ → List Problem
problem_if found code index value = cond found (record { code = code; index = index; value = value } ∷ []) []

-- ---- a meter map

-- 3 numerator 0, 4 a denominator that is no power of two up to 64, 5 a bar that is below `low`, one more than the bar before
unfoldable pub meter_point : ℕ → ℕ → MeterPoint → List Problem
meter_point index low point =
    problem_if (eqb point.numerator 0) 3 index 0
    ++ (problem_if (not (good_den point.denominator)) 4 index point.denominator
    ++ problem_if (ltb point.bar low) 5 index 0)

-- each point from an index on
unfoldable pub meter_points : ℕ → ℕ → List MeterPoint → List Problem
meter_points index low [] = []
meter_points index low (point ∷ rest) = meter_point index low point ++ meter_points (suc index) (suc point.bar) rest

-- 1 over 256 points (with their count)
abbrev pub many_meters : ℕ → List Problem
many_meters n = problem_if (ltb 256 n) 1 0 n

-- 2 a first bar that is not 0
abbrev pub later_bar : ℕ → List Problem
later_bar bar = problem_if (not (eqb bar 0)) 2 0 0

abbrev pub first_bar : List MeterPoint → List Problem
first_bar [] = []
first_bar (point ∷ rest) = later_bar point.bar

-- 1, then 2, then each point's. No bar is below 0, so the first point is not held to one before it
unfoldable pub meter_problems : List MeterPoint → List Problem
meter_problems map = many_meters (length map) ++ (first_bar map ++ meter_points 0 0 map)

-- ---- a tempo map

-- a point as it is listed: its beat, and the bits of its tempo
pub record Listed : Type 0 where
  pub at : Beat
  pub bits : ℕ

-- the points of three parallel lists
unfoldable pub listed : List ℤ → List ℕ → List ℕ → List Listed
listed [] dens tempos = []
listed (num ∷ nums) [] tempos = []
listed (num ∷ nums) (den ∷ dens) [] = []
listed (num ∷ nums) (den ∷ dens) (bits ∷ tempos) = record { at = record { num = num; den = den }; bits = bits } ∷ listed nums dens tempos

-- finite, and above 0
abbrev pub sound_tempo : Float → Bool
sound_tempo tempo = lt float0 tempo && lt tempo (inf false)

-- 8 a tempo that is not finite or not above 0 (with its bits)
unfoldable pub tempo_bits : ℕ → Listed → List Problem
tempo_bits index point = problem_if (not (sound_tempo (of_bits binary32 point.bits))) 8 index point.bits

-- 9 a beat that is not above the one before
abbrev pub not_above : ℕ → Beat → Beat → List Problem
not_above index before at = problem_if (not (below_beat before at)) 9 index 0

-- each point from an index on, after a point at the beat `before`: 8, then 9
unfoldable pub tempo_points_after : ℕ → Beat → List Listed → List Problem
tempo_points_after index before [] = []
tempo_points_after index before (point ∷ rest) = tempo_bits index point ++ (not_above index before point.at ++ tempo_points_after (suc index) point.at rest)

-- a beat is 0 where its numerator is
abbrev pub is_zero : Beat → Bool
is_zero beat = eqb (nat_abs beat.num) 0

-- 6 over 1,024 points (with their count)
abbrev pub many_tempos : ℕ → List Problem
many_tempos n = problem_if (ltb 1024 n) 6 0 n

-- 7 a first beat that is not 0
abbrev pub later_beat : Beat → List Problem
later_beat at = problem_if (not (is_zero at)) 7 0 0

-- 6, then 7, then each point's
unfoldable pub tempo_problems : List Listed → List Problem
tempo_problems [] = []
tempo_problems (first ∷ rest) = many_tempos (length (first ∷ rest)) ++ (later_beat first.at ++ (tempo_bits 0 first ++ tempo_points_after 1 first.at rest))

-- ---- the lent words

-- three words a record
unfoldable pub flat : List Problem → List ℕ
flat [] = []
flat (problem ∷ rest) = problem.code ∷ problem.index ∷ problem.value ∷ flat rest

-- there is room for the records, in whole records
abbrev pub room_for : List Problem → List ℕ → Bool
room_for problems out = leb (length problems) (length out / 3)
