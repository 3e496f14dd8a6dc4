-- A decimal tempo is the float nearest to the decimal. Its digits and the power of ten behind the point are floats exactly (10 ^ places is 5 ^ places, which has at
-- most 24 binary digits, times a power of two), so the division rounds their own fraction, and rounds it once.
use Rattle.std.proofs.Common.{◌≡◌, ℕ, zero, suc, ◌+◌, ◌*◌, ◌^◌, ◌<◌, ◌≤◌, false, ap, ◌∙◌, le_trans, mul_assoc, pow-suc, mul-one, arith, lit<, pow_mono, pow-add, shl_lt}
use native.Mathlib.Nat.{pow-le-pow_right, one-le-pow}
use lib.Ieee.{binary32, of_int, round, to_bits}
use lib.Ieee.Exact.{HasValue, round_exact}
use lib.Ieee.Back.{round_whole}
use Rattle.rounding.proofs.Laws.{quotient_is}
use Rattle.spelling.specs.Words.{quotient}

module _ (p : ℕ) (h : p ≤ 10) where
  few : 5 ^ p < 2 ^ 24
  few =
      let most : 5 ^ p ≤ 5 ^ 10 = pow-le-pow_right (lit< tt) h in
      let under : 5 ^ 10 < 2 ^ 24 = lit< tt in
      omega arith

power : (p : ℕ) → p ≤ 10 → HasValue (round binary32 false (10 ^ p) 1) false (10 ^ p) 1
power p h = round_exact binary32 false (10 ^ p) 1 (5 ^ p) (p + 149) (lit< tt) (few p h) small same
  where
    small : 5 ^ p * 2 ^ (p + 149) < 2 ^ 277
    small = le_trans (shl_lt 24 (p + 149) (few p h)) (pow_mono {j = 277} (omega arith))

    fives : (k : ℕ) → 10 ^ k ≡ 5 ^ k * 2 ^ k
    fives zero = omega arith
    fives (suc k) = rw (pow-suc 10 k, pow-suc 5 k, pow-suc 2 k) (go (5 ^ k) (2 ^ k) (10 ^ k) (fives k))
      where
        go : (a b c : ℕ) → c ≡ a * b → c * 10 ≡ a * 5 * (b * 2)
        go a b c e = omega (arith, e)

    same : 10 ^ p * 2 ^ 149 ≡ 5 ^ p * 2 ^ (p + 149) * 1
    same = ap (λ (n : ℕ). n * 2 ^ 149) (fives p) ∙ mul_assoc (5 ^ p) (2 ^ p) (2 ^ 149) ∙ rw (mul-one (5 ^ p * 2 ^ (p + 149)), pow-add 2 p 149)

-- the bits of n / 10 ^ places, to the nearest binary32, ties to even
pub decimal_nearest : (n places : ℕ) → n < 2 ^ 24 → places ≤ 10 → quotient n places ≡ to_bits binary32 (round binary32 false n (10 ^ places))
unfolding of_int
decimal_nearest n places h l =
    ap (to_bits binary32)
    (quotient_is binary32 (round binary32 false n 1) (round binary32 false (10 ^ places) 1) n 1 (10 ^ places) (one-le-pow places 10 (lit< tt)) (lit< tt)
    (round_whole binary32 false n (omega arith)) (power places l)
    ∙ ap (round binary32 false n) (mul-one (10 ^ places)))
