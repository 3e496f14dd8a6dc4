-- What a caller may lean on, each law in one place: of rounding, of casts at another width or sign, of flooring, of picks and of words.
use Rattle.std.proofs.Common.{◌≡◌, ℕ, ◌+◌, ◌/◌, ◌<◌, false, sym, refl, ◌∙◌}
use lib.Ieee.{Float, nan, Format, hid, lt, of_bits, to_bits, to_unsigned}
use Rattle.rounding.specs.Floats.{round_away, maximum, clamp, float0}
use Rattle.rounding.proofs.Nearest as by-nearest
pub use Rattle.rounding.proofs.Nearest.{Nearest}
use Rattle.rounding.proofs.Signs as by_sign_lem
pub use Rattle.rounding.proofs.Signs.{stopped}
use Rattle.rounding.proofs.Picks as by_test
use Rattle.rounding.proofs.Words as by_word_lem
pub use Rattle.rounding.proofs.Words.{plain, inf_word, zero_bits, one_bits}
-- the test `<=` is transitive
pub use Rattle.rounding.proofs.Order.{le_trans_float}
-- floats that are not negative: rounding and the rounded operations keep their order
pub use Rattle.rounding.proofs.Upward.{Up, up_right, up_trans, le→up, nle→up, up→le, round_own, round_up, not_zero, from_zero, mul_up, div_up, add_up, add_more, sub_up}
-- a quotient by a whole number is the fraction, rounded once
pub use Rattle.rounding.proofs.Quotients.{quotient_is}
-- half up is the nearest whole number, a half going up
pub use Rattle.rounding.proofs.Nearest.{nearest}
-- a number that is not negative goes to the nearest whole number, stopped at the end of any width
pub use Rattle.rounding.proofs.Nearest.{round_unsigned}
-- a number of either sign goes to the whole number nearest to its size, with its sign: halves away from zero
pub use Rattle.rounding.proofs.Nearest.{round_signed}
-- rounding never falls as its number rises
pub use Rattle.rounding.proofs.Nearest.{round_rises}
-- `x.max(0.0)` before a cast to an unsigned integer changes nothing
pub use Rattle.rounding.proofs.Signs.{max_zero}
-- the narrower cast is the wider one, stopped at its own end
pub use Rattle.rounding.proofs.Signs.{narrow}
-- the floor of a number that is not negative is the whole number k at or below it, exactly
pub use Rattle.rounding.proofs.Flooring.{floor_below}
-- the floor of a negative number, or of -0, has the size k at or above its size, exactly
pub use Rattle.rounding.proofs.Flooring.{floor_above}
-- the order of a number and any float is that of their places, which are read from the bits
pub use Rattle.rounding.proofs.Places.{place_order}
-- a maximum is not below its second side
pub use Rattle.rounding.proofs.Picks.{max_not_below}
-- with a second side that is finite and above zero it is finite and above zero, unless the first is infinity
pub use Rattle.rounding.proofs.Picks.{max_positive}
-- clamping keeps a NaN
pub use Rattle.rounding.proofs.Picks.{clamp_nan}
-- what was clamped is outside of neither bound, where the bounds are in order
pub use Rattle.rounding.proofs.Picks.{clamp_within}

-- ---- rounding

-- one number alone is the nearest
pub nearest_one : (n d j k : ℕ) → Nearest n d j → Nearest n d k → j ≡ k
nearest_one n d j k g h = sym (by-nearest.nearest_is n d j g) ∙ by-nearest.nearest_is n d k h

-- at w = 64 `x.round().max(0.0) as u64` is what `round_to_u64` answers
pub round_max_zero : (w : ℕ) (x : Float) → to_unsigned w (maximum (round_away x) float0) ≡ to_unsigned w (round_away x)
round_max_zero w x = by_sign_lem.max_zero w (round_away x)

-- ---- picks

-- a maximum with a NaN gives its other side
pub max_nan : (x : Float) → (maximum nan x ≡ x) × (maximum x nan ≡ x)
max_nan x = (by_test.max_nan_left x, by_test.max_nan_right x)

-- clamping keeps what is between the bounds, -0 under a low bound of 0 too
pub clamp_keeps : (x low high : Float) → lt x low ≡ false → lt high x ≡ false → clamp x low high ≡ x
clamp_keeps x low high h k = sym (by_test.clamp_else x low high h k)

-- ---- words

-- every word that is above an infinity's, but for its sign, is a NaN
pub nan_of : (f : Format) (word : ℕ) → inf_word f < plain f word → of_bits f word ≡ nan
nan_of f word h = sym (by_word_lem.nan_of f word h)

-- and a NaN is written in one way: at an f32 0x7FC00000, at an f64 0x7FF8000000000000
pub nan_word : (f : Format) → to_bits f nan ≡ inf_word f + hid f / 2
nan_word f = sym (by_word_lem.nan_word f nan refl)
