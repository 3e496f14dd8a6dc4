-- What rounding, flooring, a maximum and a clamp are, on the floats of `lib.Ieee`. Definitions only, which the contracts cite.
-- A float there is a NaN, an infinity, or a sign with a number m * 2 ^ e, written as the fraction `m * up e` / `down e`. It has no format, so a definition
-- here serves `f32` and `f64`. `to_unsigned w` and `to_signed h` of `lib.Ieee` are a cast, Rust's `as`: towards zero, stopped at the ends of w bits,
-- or of h bits and a sign, and 0 for a NaN.
use Rattle.std.specs.Prelude.{ℕ, ◌+◌, ◌-◌, ◌*◌, ◌/◌, Bool, true, false, cond, ◌||◌, pos, is_nan, to_bits, Float}
use Rattle.std.specs.Float.{nan, inf, fin, Format}
use Rattle.std.specs.Float.Ieee.{up, down, lt, round, top}

-- ---- whole numbers next to the fraction n / d

-- the whole part of n / d plus one half: the nearest whole number, and of two that are as near the larger
abbrev pub half_up : ℕ → ℕ → ℕ
half_up n d = (2 * n + d) / (2 * d)

-- the least whole number that is no less than n / d
abbrev pub whole_above : ℕ → ℕ → ℕ
whole_above n d = (n + (d - 1)) / d

-- ---- of a float

-- `x.abs()`: x without its sign
unfoldable pub without_sign : Float → Float
without_sign nan = nan
without_sign (inf s) = inf false
without_sign (fin s m e) = fin false m e

-- whether x has a minus sign, as -0 has: `x.is_sign_negative()`, but that a NaN has none
unfoldable pub is_negative : Float → Bool
is_negative nan = false
is_negative (inf s) = s
is_negative (fin s m e) = s

-- `x.round()`: the nearest whole number, halves away from zero. It is there for a cast to look at, and is no float of a program: its digits
-- are not reduced to the one way in which a format writes the number.
unfoldable pub round_away : Float → Float
round_away nan = nan
round_away (inf s) = inf s
round_away (fin s m e) = fin s (half_up (m * up e) (down e)) (pos 0)

-- `x.floor()`: the greatest whole number that is no more than x, so the size of a negative x goes up. A zero keeps its sign.
unfoldable pub floor_of : Format → Float → Float
floor_of f nan = nan
floor_of f (inf s) = inf s
floor_of f (fin false m e) = round f false (m * up e / down e) 1
floor_of f (fin true m e) = round f true (whole_above (m * up e) (down e)) 1

-- where x stands in the order of the format's floats: a NaN before all, 0 and -0 together in the middle, and the others by the bits of their size
unfoldable pub place_of : Format → Float → ℕ
place_of f x = cond (is_nan x) 0 (cond (is_negative x) (top f - to_bits f (without_sign x)) (top f + to_bits f (without_sign x)))

-- ---- of several floats

-- `x.max(y)`: the larger. A maximum with a NaN gives its other side; of 0 and -0, which are as large, it gives x, where Rust leaves open which.
unfoldable pub maximum : Float → Float → Float
maximum x y = cond (is_nan x || lt x y) y x

-- `x.clamp(low, high)`: a bound where x is outside of it, else x itself, and so clamping keeps a NaN, and keeps -0 under a low bound of 0.
-- Rust panics where a bound is a NaN or low is above high. There too this is the answer: a NaN bounds nothing, and the low bound goes first.
unfoldable pub clamp : Float → Float → Float → Float
clamp x low high = cond (lt x low) low (cond (lt high x) high x)

-- 0.0 and 1.0, at either format
abbrev pub float0 : Float
float0 = fin false 0 (pos 0)

abbrev pub float1 : Float
float1 = fin false 1 (pos 0)
