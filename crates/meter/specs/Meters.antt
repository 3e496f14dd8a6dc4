-- The meter in force at a bar, and how long a bar lasts.
use Rattle.std.specs.Prelude.{Bool, true, cond, List, [], ◌∷◌, ℕ, zero, suc, min, max, ◌+◌, ◌*◌, leb, ltb, pos, get_or, None, Option, Some}
use Rattle.beats.specs.declared.Beat.{Beat}
use Rattle.beats.specs.Beats.{new_beat, is_beat}
use Rattle.meter.specs.declared.MeterPoint.{MeterPoint}

-- ---- the map

-- the points of flat words, three a point. Words left over behind the last whole point are none (the calls refuse them by 3)
unfoldable pub points_of : List ℕ → List MeterPoint
points_of [] = []
points_of (bar ∷ []) = []
points_of (bar ∷ numerator ∷ []) = []
points_of (bar ∷ numerator ∷ denominator ∷ rest) = record { bar = bar; numerator = numerator; denominator = denominator } ∷ points_of rest

-- the point whose first word is the one at i
abbrev pub point_at : List ℕ → ℕ → MeterPoint
point_at words i = record { bar = get_or words i 0; numerator = get_or words (i + 1) 0; denominator = get_or words (i + 2) 0 }

-- ---- the meter in force

-- the point where it begins at or before the bar, and else what was found before it
unfoldable pub later : MeterPoint → ℕ → MeterPoint → MeterPoint
later point bar found = cond (leb point.bar bar) point found

-- the last listed point whose bar is at most the bar, or `found` where there is none
unfoldable pub last_at : List MeterPoint → ℕ → MeterPoint → MeterPoint
last_at [] bar found = found
last_at (point ∷ rest) bar found = last_at rest bar (later point bar found)

-- where no point is in force: max(default, 1)/4
abbrev pub fallback : ℕ → MeterPoint
fallback default = record { bar = 0; numerator = max default 1; denominator = 4 }

abbrev pub meter_at : List MeterPoint → ℕ → ℕ → MeterPoint
meter_at map default bar = last_at map bar (fallback default)

-- ---- lengths

-- 4 * numerator / denominator quarter beats
unfoldable pub len_of : MeterPoint → Beat
len_of meter = new_beat (pos (meter.numerator * 4)) meter.denominator

-- the pickup, or the usual length where there is none
abbrev pub pickup_or : Option Beat → Beat → Beat
pickup_or None usual = usual
pickup_or (Some beat) usual = beat

-- bar 0 lasts the pickup if there is one; every other bar lasts what its meter says
unfoldable pub bar_len : List MeterPoint → ℕ → Option Beat → ℕ → Beat
bar_len map default pickup zero = pickup_or pickup (len_of (meter_at map default 0))
bar_len map default pickup (suc bar) = len_of (meter_at map default (suc bar))

-- absent, or a beat
abbrev pub sound_pickup : Option Beat → Bool
sound_pickup None = true
sound_pickup (Some beat) = is_beat beat

-- ---- changes

-- the lesser of the change and the end where the change is above the bar, and else the end
unfoldable pub nearer : ℕ → ℕ → ℕ → ℕ
nearer change bar end = cond (ltb bar change) (min change end) end

-- the least of the end and the listed bars above the bar
unfoldable pub next_change : List MeterPoint → ℕ → ℕ → ℕ
next_change [] bar end = end
next_change (point ∷ rest) bar end = next_change rest bar (nearer point.bar bar end)
