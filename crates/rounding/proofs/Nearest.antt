-- Half up is the nearest whole number, a half going up: k stands for n / d where k - 1 / 2 ≤ n / d < k + 1 / 2, and a quotient by 2 * d is the one such k.
-- So rounding goes to the nearest, halves away from zero, at every width and either sign, and never falls as its number rises.
use Rattle.std.proofs.Common.{◌≡◌, ℕ, ◌+◌, ◌-◌, ◌*◌, ◌/◌, ◌^◌, ◌<◌, ◌≤◌, min, Bool, true, false, T, eqb, ℤ, sym, ap, ◌∙◌, zero-le, le_trans, le_of_eq, le_refl, lt_of_lt_of_le, mul_assoc, mul_comm, div-lt_iff_lt-mul, mul-one, div-mul-le_self, div-one, arith, eqb→eq}
use native.Mathlib.Nat.{div-eq_of_lt, div-eq_of_lt-le, min-le_left, min-le_right}
use native.Mathlib.Numerals.{lt-add-one}
use lib.Ieee.{Float, nan, inf, fin, up, down, lt, eq, le, to_unsigned, to_signed}
use lib.Ieee.Fits.{down_pos, and_r}
use lib.Ieee.Nearest.{div_mono}
use Rattle.numbers.proofs.Laws.{factor_zero}
use Rattle.rounding.specs.Floats.{half_up, round_away}
use Rattle.rounding.proofs.Signs.{stopped}
use Rattle.rounding.proofs.Order.{same}

-- 2 * k ≤ 2 * (n / d) + 1 < 2 * (k + 1), in whole numbers
pub record Nearest (n d k : ℕ) : Type 0 where
  pub least : 2 * k * d ≤ 2 * n + d
  pub most : 2 * n + d < 2 * (k + 1) * d

swap : (k d : ℕ) → k * (2 * d) ≡ 2 * k * d
swap k d = sym (mul_assoc k 2 d) ∙ ap (λ (z : ℕ). z * d) (mul_comm k 2)

pub nearest : (n d : ℕ) → 0 < d → Nearest n d (half_up n d)
nearest n d D = record {
  least = le_trans (le_of_eq (sym (swap (half_up n d) d))) (div-mul-le_self (2 * n + d) (2 * d));
  most = lt_of_lt_of_le ((div-lt_iff_lt-mul (omega arith)).0 (lt-add-one (half_up n d))) (le_of_eq (swap (half_up n d + 1) d));
}

pub nearest_is : (n d k : ℕ) → Nearest n d k → half_up n d ≡ k
nearest_is n d k h = div-eq_of_lt-le (2 * d) (le_trans (le_of_eq (swap k d)) h.least) (lt_of_lt_of_le h.most (le_of_eq (sym (swap (k + 1) d))))

-- ---- at every width

cast_of : (n : ℕ) → n * 1 / 1 ≡ n
cast_of n = div-one (n * 1) ∙ mul-one n

pub round_unsigned : (w m : ℕ) (e : ℤ) (k : ℕ) → Nearest (m * up e) (down e) k → to_unsigned w (round_away (fin false m e)) ≡ min k (2 ^ w - 1)
unfolding to_unsigned round_away
round_unsigned w m e k h = ap (λ (j : ℕ). min j (2 ^ w - 1)) (cast_of (half_up (m * up e) (down e)) ∙ nearest_is (m * up e) (down e) k h)

pub round_signed : (b : ℕ) (s : Bool) (m : ℕ) (e : ℤ) (k : ℕ) → Nearest (m * up e) (down e) k → to_signed b (round_away (fin s m e)) ≡ stopped b s k
unfolding to_signed round_away
round_signed b s m e k h = ap (λ (j : ℕ). stopped b s j) (cast_of (half_up (m * up e) (down e)) ∙ nearest_is (m * up e) (down e) k h)

-- ---- rising

half_rises : (n d n' d' : ℕ) → 0 < d → 0 < d' → n * d' ≤ n' * d → half_up n d ≤ half_up n' d'
half_rises n d n' d' D D' h = div_mono (2 * n + d) (2 * d) (2 * n' + d') (2 * d') (omega arith) (omega arith) (omega arith)

no_half : (n d : ℕ) → n ≡ 0 → 0 < d → half_up n d * 1 / 1 ≡ 0
no_half n d z D = ap (λ (k : ℕ). k * 1 / 1) (div-eq_of_lt (go n d z D))
  where
    go : (u v : ℕ) → u ≡ 0 → 0 < v → 2 * u + v < 2 * v
    go u v p q = omega arith

pub round_rises : (w : ℕ) (x y : Float) → T (le x y) → to_unsigned w (round_away x) ≤ to_unsigned w (round_away y)
unfolding to_unsigned round_away le lt eq
round_rises w nan y h = zero-le
round_rises w (inf true) y h = zero-le
round_rises w (inf false) nan h = absurd h
round_rises w (inf false) (inf true) h = absurd h
round_rises w (inf false) (inf false) h = le_refl (2 ^ w - 1)
round_rises w (inf false) (fin t n d) h = absurd h
round_rises w (fin true m e) y h = zero-le
round_rises w (fin false m e) nan h = absurd h
round_rises w (fin false m e) (inf true) h = absurd h
round_rises w (fin false m e) (inf false) h = min-le_right (half_up (m * up e) (down e) * 1 / 1) (2 ^ w - 1)
round_rises w (fin false m e) (fin true n d) h =
    let a = m * up e * down d in
    let z : m * up e ≡ 0 = factor_zero (m * up e) (down d) (down_pos d) (eqb→eq a 0 (and_r (eqb a (n * up d * down e)) (eqb a 0) h)) in
    le_trans (min-le_left (half_up (m * up e) (down e) * 1 / 1) (2 ^ w - 1)) (le_of_eq (no_half (m * up e) (down e) z (down_pos e)))
round_rises w (fin false m e) (fin false n d) h =
    let a = m * up e * down d in
    let b = n * up d * down e in
    go (half_up (m * up e) (down e)) (half_up (n * up d) (down d)) (2 ^ w - 1) (half_rises (m * up e) (down e) (n * up d) (down d) (down_pos e) (down_pos d) (same a b h))
  where
    go : (a b c : ℕ) → a ≤ b → min (a * 1 / 1) c ≤ min (b * 1 / 1) c
    go a b c l = omega arith
