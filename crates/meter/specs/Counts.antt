-- How many bars have gone by at a beat: by doubling, then by halving; and what it means that this is the least bar.
use Rattle.std.specs.Prelude.{Bool, true, false, not, ◌≡◌, List, ℕ, zero, suc, ◌+◌, ◌-◌, ◌*◌, ◌/◌, ◌<◌, ltb, None, Option, Some}
use Rattle.beats.specs.declared.Beat.{Beat}
use Rattle.beats.specs.Beats.{zero_beat}
use Rattle.beats.specs.Sums.{below_beat}
use Rattle.meter.specs.declared.MeterPoint.{MeterPoint}
use Rattle.meter.specs.Starts.{start_of}

-- ---- the search, over any test of bars

module _ (test : ℕ → Bool) where
  -- hi, doubled until it passes the test; the first argument bounds the number of bars tried
  unfoldable pub doubling : ℕ → ℕ → Option ℕ
  doubling zero hi = None
  doubling (suc tries) hi = elim (test hi) [ true ↦ Some hi | false ↦ doubling tries (hi * 2) ]

  -- between a bar lo that fails and a bar hi that passes, the middle one takes the place of one of them until they are neighbours.
  -- The first argument bounds the number of halvings
  unfoldable pub halving : ℕ → ℕ → ℕ → ℕ
  halving zero lo hi = hi
  halving (suc times) lo hi =
      let mid = lo + (hi - lo) / 2 in
      elim (ltb (lo + 1) hi) [ true ↦ elim (test mid) [ true ↦ halving times lo mid | false ↦ halving times mid hi ] | false ↦ hi ]

  -- the bar between 0 and the upper bar; 2^32 - 1, unsearched, where doubling passed 2^31
  abbrev pub within : Option ℕ → ℕ
  within (Some hi) = halving 32 0 hi
  within None = 4294967295

  -- hi doubles from 1 to at most 2^31, which is 32 bars; then the range is halved
  unfoldable pub searched : ℕ
  searched = within (doubling 32 1)

  -- the first bar that passes
  pub record Least (bar : ℕ) : Type 0 where
    pub passes : test bar ≡ true
    pub fails : (before : ℕ) → before < bar → test before ≡ false

-- ---- bars elapsed

-- the bar starts at or after the beat
unfoldable pub reaches : List MeterPoint → ℕ → Option Beat → Beat → ℕ → Bool
reaches map default pickup beat bar = not (below_beat (start_of map default pickup bar) beat)

-- 0 for a beat at or below 0
unfoldable pub count_at : List MeterPoint → ℕ → Option Beat → Beat → ℕ
count_at map default pickup beat = elim (below_beat zero_beat beat) [ true ↦ searched (reaches map default pickup beat) | false ↦ 0 ]
