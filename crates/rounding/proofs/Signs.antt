-- A cast at a sign and at another width, from the unsigned cast of the size: a minus takes it to 0, or turns it. Over the widths.
use Rattle.std.proofs.Common.{◌≡◌, ℕ, zero, suc, ◌-◌, ◌*◌, ◌/◌, ◌^◌, ◌<◌, ◌≤◌, min, Bool, true, false, cond, ℤ, pos, neg_ℤ, sym, refl, ap, ◌∙◌, true≢false, zero-le, le_of_lt, zero-mul, arith, le-ltb}
use native.Mathlib.Nat.{min-eq_right, zero-min, suc-min-suc}
use lib.Pow.{le_ones}
use lib.Ieee.{Float, nan, inf, fin, up, down, lt, is_nan, to_unsigned, to_signed}
use Rattle.numbers.specs.Signs.{to_i64, with_sign}
use Rattle.rounding.specs.Floats.{is_negative, without_sign, round_away, maximum, float0}
use Rattle.rounding.proofs.Picks.{max_nan_left}

-- ---- another width

-- the end of the narrower width, and a number stopped at it, under the end of the wider
ends : (a b : ℕ) → a ≤ b → a - 1 ≡ min (b - 1) (a - 1)
ends a b h = omega arith

again : (k a b : ℕ) → a ≤ b → min k (a - 1) ≡ min (min k (b - 1)) (a - 1)
again k a b h = omega arith

-- the narrower cast is the wider one, stopped at its own end
pub narrow : (v w : ℕ) → 2 ^ v ≤ 2 ^ w → (y : Float) → to_unsigned v y ≡ min (to_unsigned w y) (2 ^ v - 1)
unfolding to_unsigned
narrow v w h nan = sym (zero-min (2 ^ v - 1))
narrow v w h (inf true) = sym (zero-min (2 ^ v - 1))
narrow v w h (inf false) = ends (2 ^ v) (2 ^ w) h
narrow v w h (fin true m e) = sym (zero-min (2 ^ v - 1))
narrow v w h (fin false m e) = again (m * up e / down e) (2 ^ v) (2 ^ w) h

-- ---- the casts, by the sign and the size

-- the number with the sign s and the size n, stopped at the ends of h bits and a sign
abbrev pub stopped : ℕ → Bool → ℕ → ℤ
stopped h s n = cond s (neg_ℤ (pos (min n (2 ^ h)))) (pos (min n (2 ^ h - 1)))

-- at an i64 this is what `numbers::signed` answers
pub at_i64 : (s : Bool) (n : ℕ) → to_i64 (with_sign s n) ≡ stopped 63 s n
at_i64 true zero = refl
at_i64 true (suc n) = sym (ap (λ (k : ℕ). neg_ℤ (pos k)) (suc-min-suc n (2 ^ 63 - 1)))
at_i64 false n = refl

-- stopping at w bits first changes nothing
module _ (h w : ℕ) (narrower : 2 ^ h < 2 ^ w) where
  stopped_again : (s : Bool) (n : ℕ) → stopped h s n ≡ stopped h s (min n (2 ^ w - 1))
  stopped_again true n = ap (λ (k : ℕ). neg_ℤ (pos k)) (go n (2 ^ h) (2 ^ w) narrower)
    where
      go : (k a b : ℕ) → a < b → min k a ≡ min (min k (b - 1)) a
      go k a b l = omega arith
  stopped_again false n = ap pos (again n (2 ^ h) (2 ^ w) (le_of_lt narrower))

  stopped_most : (s : Bool) → cond s (neg_ℤ (pos (2 ^ h))) (pos (2 ^ h - 1)) ≡ stopped h s (2 ^ w - 1)
  stopped_most true = ap (λ (k : ℕ). neg_ℤ (pos k)) (sym (min-eq_right (le_ones w narrower)))
  stopped_most false = ap pos (ends (2 ^ h) (2 ^ w) (le_of_lt narrower))

-- an unsigned cast is 0 where there is a minus, else that of the size
pub minus_none : (w : ℕ) (x : Float) → is_negative x ≡ true → 0 ≡ to_unsigned w x
unfolding to_unsigned is_negative
minus_none w nan h = refl
minus_none w (inf s) h = rw h
minus_none w (fin s m e) h = rw h

pub plain_own : (w : ℕ) (x : Float) → is_negative x ≡ false → to_unsigned w (without_sign x) ≡ to_unsigned w x
unfolding to_unsigned is_negative without_sign
plain_own w nan h = refl
plain_own w (inf s) h = rw h
plain_own w (fin s m e) h = rw h

-- a signed cast is the size with the sign
pub signed_by : (h w : ℕ) → 2 ^ h < 2 ^ w → (x : Float) → to_signed h x ≡ stopped h (is_negative x) (to_unsigned w (without_sign x))
unfolding to_unsigned to_signed is_negative without_sign
signed_by h w l nan = ap pos (sym (zero-min (2 ^ h - 1)))
signed_by h w l (inf s) = stopped_most h w l s
signed_by h w l (fin s m e) = stopped_again h w l s (m * up e / down e)

-- rounding keeps the sign
pub round_sign : (x : Float) → is_negative (round_away x) ≡ is_negative x
unfolding is_negative round_away
round_sign nan = refl
round_sign (inf s) = refl
round_sign (fin s m e) = refl

-- ---- a maximum with 0 before a cast to an unsigned integer changes nothing

module _ (w : ℕ) where
  below_none : (x : Float) → lt x float0 ≡ true → to_unsigned w x ≡ 0
  unfolding lt to_unsigned
  below_none nan h = refl
  below_none (inf true) h = refl
  below_none (inf false) h = absurd (true≢false (sym h))
  below_none (fin true m e) h = refl
  below_none (fin false m e) h = absurd (true≢false (sym h ∙ le-ltb (m * up e * 1) (0 * down e) (rw zero-mul zero-le)))

  picked : (x : Float) (b : Bool) → (b ≡ true → to_unsigned w x ≡ 0) → to_unsigned w (cond b float0 x) ≡ to_unsigned w x
  unfolding to_unsigned
  picked x true h = zero-min (2 ^ w - 1) ∙ sym (h refl)
  picked x false h = refl

  pub max_zero : (x : Float) → to_unsigned w (maximum x float0) ≡ to_unsigned w x
  unfolding maximum is_nan to_unsigned
  max_zero nan = ap (λ (y : Float). to_unsigned w y) (max_nan_left float0) ∙ zero-min (2 ^ w - 1)
  max_zero (inf s) = picked (inf s) (lt (inf s) float0) (below_none (inf s))
  max_zero (fin s m e) = picked (fin s m e) (lt (fin s m e) float0) (below_none (fin s m e))
