-- What the functions below the calls do, for their contracts and the laws that join them: a pass over a map, which counts its records or writes them too. The calls promise the problems of `Problems`; that the passes give these is proved (proofs/Wholes).
use Rattle.std.specs.Prelude.{Bool, true, cond, ◌≡◌, List, [], ◌∷◌, ◌++◌, ℕ, suc, ◌+◌, ◌*◌, ◌≤◌, eqb, ℤ, pos, length, get_or}
use Rattle.std.proofs.lemmas.List.Edits.{sets}
use Rattle.beats.specs.declared.Beat.{Beat}
use Rattle.meter.specs.declared.MeterPoint.{MeterPoint}
use Rattle.problems.specs.Problems.{Problem, Listed, flat, many_meters, later_bar, meter_point, many_tempos, later_beat, tempo_bits, not_above}

-- ---- a part of a pass, from a count of records on

-- the words afterwards: a pass that writes has put its records behind those before
abbrev pub put : Bool → List ℕ → ℕ → List Problem → List ℕ
put writing out count problems = cond writing (sets out (3 * count) (flat problems)) out

-- the count stays a word, and a pass that writes has room for the records
pub record Ready (writing : Bool) (out : List ℕ) (count : ℕ) (problems : List Problem) : Type 0 where
  pub fits : count + length problems ≤ 4294967295
  pub room : writing ≡ true → 3 * (count + length problems) ≤ length out

-- the records are counted, and put
pub record Passed (writing : Bool) (before : List ℕ) (count : ℕ) (problems : List Problem) (after : List ℕ) (next : ℕ) : Type 0 where
  pub counted : next ≡ count + length problems
  pub words : after ≡ put writing before count problems

-- ---- a tempo map of n points

abbrev pub listed_at : Beat → ℕ → Listed
listed_at at bits = record { at = at; bits = bits }

abbrev pub beat_at : List ℤ → List ℕ → ℕ → Beat
beat_at nums dens i = record { num = get_or nums i (pos 0); den = get_or dens i 0 }

-- the records of the first point, with those of the map
unfoldable pub tempo_first : ℕ → Listed → List Problem
tempo_first n point = many_tempos n ++ (later_beat point.at ++ tempo_bits 0 point)

-- the records of a point after a point at the beat `before`
unfoldable pub tempo_later : ℕ → Beat → Listed → List Problem
tempo_later index before point = tempo_bits index point ++ not_above index before point.at

unfoldable pub tempo_at : ℕ → ℕ → Beat → Listed → List Problem
tempo_at n index before point = cond (eqb index 0) (tempo_first n point) (tempo_later index before point)

-- each point from an index on
unfoldable pub tempo_from : ℕ → ℕ → Beat → List Listed → List Problem
tempo_from n index before [] = []
tempo_from n index before (point ∷ rest) = tempo_at n index before point ++ tempo_from n (suc index) point.at rest

-- ---- a meter map of n points

abbrev pub point_of : ℕ → ℕ → ℕ → MeterPoint
point_of bar numerator denominator = record { bar = bar; numerator = numerator; denominator = denominator }

-- the records of the map, which stand before those of the first point
unfoldable pub meter_head : ℕ → ℕ → ℕ → List Problem
meter_head n index bar = cond (eqb index 0) (many_meters n ++ later_bar bar) []

unfoldable pub records_at : ℕ → ℕ → ℕ → MeterPoint → List Problem
records_at n index low point = meter_head n index point.bar ++ meter_point index low point

-- each point from an index on
unfoldable pub meter_from : ℕ → ℕ → ℕ → List MeterPoint → List Problem
meter_from n index low [] = []
meter_from n index low (point ∷ rest) = records_at n index low point ++ meter_from n (suc index) (suc point.bar) rest
