-- Steps, lens, gains and bars, each as the calls change it. Steps and bars stop at 2^32 - 1; only a rotated step keeps its low 32 bits.
use Rattle.std.specs.Prelude.{ℕ, ◌+◌, ◌-◌, ◌*◌, ◌/◌, ◌%◌, ◌^◌, min, max, cond, ℤ, pos, negsuc, ◌+ℤ◌, ◌==◌, from_bits, to_bits, Float}
use Rattle.std.specs.Float.{binary32}
use Rattle.std.specs.Float.Ieee.{mul, of_int, to_unsigned}
use Rattle.rounding.specs.Floats.{half_up, whole_above, round_away, clamp, float0, float1}

abbrev pub most_step : ℕ
most_step = 4294967295

-- the steps of a pattern: its bars, of at least one step each
abbrev pub total_steps : ℕ → ℕ → ℕ
total_steps bars stepsPerBar = bars * max stepsPerBar 1

-- the bars that hold a number of steps, at least 1
abbrev pub bars_for : ℕ → ℕ → ℕ
bars_for steps stepsPerBar = max (min (whole_above steps (max stepsPerBar 1)) most_step) 1

-- ---- steps

abbrev pub later_step : ℕ → ℕ → ℕ
later_step off step = min (step + off) most_step

-- a step, a len or a number of bars, times num / den: for what stays on the grid, and up to 2^32 - 1, this is exact
abbrev pub stretched_by : ℕ → ℕ → ℕ → ℕ
stretched_by num den value = min (value * num / den) most_step

-- z mod total, which is never below zero. (negsuc n is -(n + 1).)
unfoldable pub remainder : ℤ → ℕ → ℕ
remainder (pos n) total = n % total
remainder (negsuc n) total = total - 1 - n % total

-- (step + shift) mod total, its low 32 bits; the step itself where there are no steps to go round
abbrev pub rotated_step : ℤ → ℕ → ℕ → ℕ
rotated_step shift total step = cond (total == 0) step (remainder (pos step +ℤ shift) total % 2 ^ 32)

-- a note from step up to step + len is mirrored to the one that ends `step` steps before the end; 0 where it reaches past the end
abbrev pub mirrored_step : ℕ → ℕ → ℕ → ℕ
mirrored_step total len step = min (total - (step + len)) most_step

-- the nearest multiple of the grid, of two that are as near the later; a grid of 0 counts as 1
abbrev pub snapped_step : ℕ → ℕ → ℕ
snapped_step grid step = min (half_up step (max grid 1) * max grid 1) most_step

-- ---- gains and lens, by binary32

-- the gain times scale, kept between 0 and 1, where NaN and -0 stay. It is read and written as bits, a NaN as 0x7FC00000
unfoldable pub scaled_gain : Float → ℕ → ℕ
scaled_gain scale gain = to_bits binary32 (clamp (mul binary32 (from_bits binary32 gain) scale) float0 float1)

-- the len times factor, rounded half away from zero, stopped at 0 and 2^32 - 1 and then at least 1
abbrev pub gated_len : Float → ℕ → ℕ
gated_len factor len = max (to_unsigned 32 (round_away (mul binary32 (of_int binary32 (pos len)) factor))) 1
