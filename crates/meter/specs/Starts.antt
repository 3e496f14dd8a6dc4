-- Where a bar starts: by segments of one meter, as document 01 has it, and as the plain sum of the lengths before it.
use Rattle.std.specs.Prelude.{Bool, true, false, cond, ◌&&◌, List, [], ◌∷◌, ℕ, zero, suc, ◌-◌, ltb, leb, pos, Option}
use Rattle.numbers.specs.Answers.{Answer, accepted, then}
use Rattle.beats.specs.declared.Beat.{Beat}
use Rattle.beats.specs.Beats.{zero_beat}
use Rattle.beats.specs.Sums.{add_beats, mul_beat, or_most, sum_of}
use Rattle.meter.specs.declared.MeterPoint.{MeterPoint}
use Rattle.meter.specs.Meters.{len_of, bar_len, next_change}

-- ---- the walk, which turns a refused operation into (2^63 - 1)/1 and goes on

-- the beat n bars of one length after a beat: the length is scaled, and added
unfoldable pub after_bars : Beat → Beat → ℕ → Beat
after_bars at len n = or_most (add_beats at (or_most (mul_beat len (pos n) 1)))

-- the bars of one meter from a bar, which starts at `at`, up to the bar `end`
unfoldable pub ending : ℕ → ℕ → MeterPoint → Beat → Beat
ending bar end meter at = cond (ltb bar end) (after_bars at (len_of meter) (end - bar)) at

module _ (map : List MeterPoint) (default : ℕ) (pickup : Option Beat) where
  -- from a bar, which starts at `at`, to the start of the bar `end`: the bars up to the next change are one segment.
  -- The first argument bounds the number of segments
  unfoldable pub segments : ℕ → ℕ → ℕ → Beat → Beat
  segments zero bar end at = at
  segments (suc most) bar end at =
      elim (ltb bar end) [
        | true ↦ segments most (next_change map bar end) end (after_bars at (bar_len map default pickup bar) (next_change map bar end - bar))
        | false ↦ at
      ]

  -- the start of a bar: bar 0 is added to 0, then whole segments
  unfoldable pub start_of : ℕ → Beat
  start_of zero = zero_beat
  start_of (suc bar) = segments (suc bar) 1 (suc bar) (or_most (add_beats zero_beat (bar_len map default pickup 0)))

-- ---- what the code works out first, once for all starts

-- each bar is at least `low`, and at least the one before it
unfoldable pub ascends : ℕ → List MeterPoint → Bool
ascends low [] = true
ascends low (point ∷ rest) = leb low point.bar && ascends point.bar rest

-- whether the bars ascend, and where bar 1 starts
unfoldable pub opening_of : List MeterPoint → ℕ → Option Beat → Bool × Beat
opening_of map default pickup = (ascends 0 map, or_most (add_beats zero_beat (bar_len map default pickup 0)))

-- ---- the same walk, refused as soon as one of its operations is

unfoldable pub checked_bars : Beat → Beat → ℕ → Answer Beat
checked_bars at len n = then (mul_beat len (pos n) 1) (λ span. add_beats at span)

module _ (map : List MeterPoint) (default : ℕ) (pickup : Option Beat) where
  unfoldable pub checked_segments : ℕ → ℕ → ℕ → Beat → Answer Beat
  checked_segments zero bar end at = accepted at
  checked_segments (suc most) bar end at =
      elim (ltb bar end) [
        | true ↦ then (checked_bars at (bar_len map default pickup bar) (next_change map bar end - bar)) (λ there. checked_segments most (next_change map bar end) end there)
        | false ↦ accepted at
      ]

  unfoldable pub checked_start : ℕ → Answer Beat
  checked_start zero = accepted zero_beat
  checked_start (suc bar) = then (add_beats zero_beat (bar_len map default pickup 0)) (λ one. checked_segments (suc bar) 1 (suc bar) one)

-- ---- the plain sum, bar by bar, in whole numbers of any size

module _ (map : List MeterPoint) (default : ℕ) (pickup : Option Beat) where
  -- the sum of the lengths of the bars before a bar
  unfoldable pub exact_start : ℕ → Beat
  exact_start zero = zero_beat
  exact_start (suc bar) = sum_of (exact_start bar) (bar_len map default pickup bar)
