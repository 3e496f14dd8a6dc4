-- A word as a float and back, the NaNs' patterns among them: a word is a NaN's exactly when, without its sign, it is above an infinity's. Over the format.
use Rattle.std.proofs.Common.{◌≡◌, ℕ, ◌+◌, ◌-◌, ◌*◌, ◌/◌, ◌%◌, ◌^◌, ◌<◌, ◌≤◌, Bool, true, not, T, ltb, sym, refl, ap, ◌∙◌, subst, true≢false, le-ltb, lt-ltb}
use lib.Bits.{bit_and, and_mask}
use lib.Ieee.{Float, nan, inf, fin, Format, binary32, binary64, ones, hid, top, fits, of_bits, to_bits, nan_bits, is_nan}
use lib.Ieee.Bits.{of_bits-to_bits, nan_bits_is, nan_bits_above}
use Rattle.rounding.specs.Floats.{float0, float1}

-- the place of the sign, and an infinity's pattern
abbrev pub sign_place : Format → ℕ
sign_place binary32 = 31
sign_place binary64 = 63

abbrev pub inf_word : Format → ℕ
inf_word f = ones f * hid f

top_is : (f : Format) → top f ≡ 2 ^ sign_place f
top_is binary32 = refl
top_is binary64 = refl

only : (x : Float) → is_nan x ≡ true → nan ≡ x
unfolding is_nan
only nan h = refl
only (inf s) h = absurd (true≢false (sym h))
only (fin s m e) h = absurd (true≢false (sym h))

module _ (f : Format) (word : ℕ) where
  -- the word without its sign
  abbrev pub plain : ℕ
  plain = bit_and word (2 ^ sign_place f - 1)

  above : nan_bits f word ≡ ltb (inf_word f) plain
  above = nan_bits_above f word ∙ ap (λ (k : ℕ). ltb (inf_word f) (word % k)) (top_is f) ∙ ap (λ (k : ℕ). ltb (inf_word f) k) (sym (and_mask word (sign_place f)))

  pub nan_of : inf_word f < plain → nan ≡ of_bits f word
  nan_of h = only (of_bits f word) (sym (nan_bits_is f word) ∙ above ∙ lt-ltb (inf_word f) plain h)

  pub number_of : plain ≤ inf_word f → T (not (nan_bits f word))
  number_of h = subst (λ (b : Bool). T (not b)) (sym (above ∙ le-ltb (inf_word f) plain h)) tt

-- no two floats have one word
pub same_float : (f : Format) (x y : Float) → T (fits f x) → T (fits f y) → to_bits f x ≡ to_bits f y → x ≡ y
same_float f x y F G w = sym (of_bits-to_bits f x F) ∙ ap (λ (k : ℕ). of_bits f k) w ∙ of_bits-to_bits f y G

-- the word of a NaN
pub nan_word : (f : Format) (x : Float) → x ≡ nan → inf_word f + hid f / 2 ≡ to_bits f x
unfolding to_bits
nan_word f x h = rw h

-- 0.0 and 1.0 by their bits
pub zero_bits : of_bits binary32 0 ≡ float0
unfolding of_bits
zero_bits = refl

pub one_bits : of_bits binary32 0x3f80_0000 ≡ float1
unfolding of_bits
one_bits = refl
