-- Whether a score fits, decided by one pass over its map instead of a look at 2^31 bars. Promise.antt says that this decides `Fits` of meter exactly.
use Rattle.std.specs.Prelude.{Bool, cond, ◌&&◌, List, [], ◌∷◌, ℕ, min, max, ◌-◌, ltb, Option}
use Rattle.numbers.specs.Answers.{Answer, accepted, refused, is_accepted, then}
use Rattle.beats.specs.declared.Beat.{Beat}
use Rattle.beats.specs.Beats.{zero_beat}
use Rattle.beats.specs.Sums.{add_beats}
use Rattle.meter.specs.declared.MeterPoint.{MeterPoint}
use Rattle.meter.specs.Meters.{fallback, len_of, bar_len}
use Rattle.meter.specs.Starts.{checked_bars}
use Rattle.meter.specs.Fits.{sound_map, forward_pickup, last_bar}

-- the beat behind n bars of one length, n above 0; refused where it is, or where the start of the bar before is. For the lengths of sound meters these two stand for
-- all starts on the way: the denominator is a power of two, so an odd number of bars leaves it as it is, and no earlier start works with larger numbers
unfoldable pub segment : Beat → Beat → ℕ → Answer Beat
segment at len n = cond (is_accepted (checked_bars at len (n - 1))) (checked_bars at len n) (refused 2 [])

-- from a bar, which starts at `at`, to the start of the bar `end`, all of one meter
unfoldable pub reach : ℕ → ℕ → MeterPoint → Beat → Answer Beat
reach bar end meter at = cond (ltb bar end) (segment at (len_of meter) (end - bar)) (accepted at)

-- from a bar, where the meter is `meter` and whose start is the last argument, to the start of bar 2^31, over the points that are left. Each of them ends a segment, and bar 2^31 the last
unfoldable pub walked : List MeterPoint → ℕ → MeterPoint → Answer Beat → Answer Beat
walked [] bar meter start = then start (λ at. reach bar last_bar meter at)
walked (point ∷ rest) bar meter start =
    walked rest (max bar (min point.bar last_bar)) point (then start (λ at. reach bar (min point.bar last_bar) meter at))

-- bar 0 is added to 0, which gives the start of bar 1; from there on the points are walked
unfoldable pub walk_fits : List MeterPoint → ℕ → Option Beat → Bool
walk_fits map default pickup = is_accepted (walked map 1 (fallback default) (add_beats zero_beat (bar_len map default pickup 0)))

-- the map has no problems, the pickup is absent or at least 0, and the walk is not refused
unfoldable pub fits_bool : List MeterPoint → ℕ → Option Beat → Bool
fits_bool map default pickup = sound_map map && (forward_pickup pickup && walk_fits map default pickup)
