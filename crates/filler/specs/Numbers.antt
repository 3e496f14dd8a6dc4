-- The points of a meter map by their numbers: the first listed is number 1, and 0 stands for none.
use Rattle.std.specs.Prelude.{cond, ◌≡◌, List, [], ◌∷◌, ℕ, zero, suc, ◌*◌, ◌<◌, eqb, ltb, length, get_or}
use Rattle.meter.specs.declared.MeterPoint.{MeterPoint}
use Rattle.meter.specs.Meters.{fallback, point_at}

-- ---- the point listed last for a bar

-- of the points from number `count` + 1 on, or `found` where none is listed for the bar
unfoldable pub mark_from : ℕ → List MeterPoint → ℕ → ℕ → ℕ
mark_from count [] bar found = found
mark_from count (point ∷ rest) bar found = mark_from (suc count) rest bar (cond (eqb point.bar bar) (suc count) found)

abbrev pub mark_of : List MeterPoint → ℕ → ℕ
mark_of map bar = mark_from 0 map bar 0

-- entry k of the list is the mark of bar k
pub record Marked (map : List MeterPoint) (n : ℕ) (out : List ℕ) : Type 0 where
  pub long : length out ≡ n
  pub marks : (bar : ℕ) → bar < n → get_or out bar 0 ≡ mark_of map bar

-- ---- the point listed last among those that begin before a bar

unfoldable pub force_from : ℕ → List MeterPoint → ℕ → ℕ → ℕ
force_from count [] bar found = found
force_from count (point ∷ rest) bar found = force_from (suc count) rest bar (cond (ltb point.bar bar) (suc count) found)

abbrev pub force_of : List MeterPoint → ℕ → ℕ
force_of map bar = force_from 0 map bar 0

-- ---- the meter of a number

unfoldable pub numbered : List ℕ → ℕ → ℕ → MeterPoint
numbered words default zero = fallback default
numbered words default (suc i) = point_at words (i * 3)
