-- Numbers with no common factor: what follows from a greatest common divisor of 1.
use mathlib.Core.Path.{◌≡◌, sym, ap, ◌∙◌, subst}
use Prim.Native.Nat.{ℕ, zero, suc, one, ◌+◌, ◌*◌, ◌/◌, ◌%◌, ◌<◌, ◌∣◌}
use native.Mathlib.Nat.{mod-lt, zero-mod, zero-lt-suc, one-mul, zero-mul, mul-one, div-add-mod', mul-lt-mul_of_pos_right, dvd-mul_left, dvd-mul_right, dvd_antisymm, eq_of_mul-eq-mul_right, mul-dvd-mul_left, dvd_of_mul-dvd-mul_left, mul-div_cancel', eq-one_of_dvd-one}
use native.Mathlib.Omega.{arith}
use lib.Arith.{digits_mod}
use Rattle.numbers.specs.Divisor.{gcd_of}
use Rattle.numbers.proofs.Divisor.{gcd_zero, gcd_step, gcd_left, gcd_right, gcd_greatest, gcd_pos}

-- a common factor comes out
mod_times : (a b k : ℕ) → 0 < b → 0 < k → (a * k) % (b * k) ≡ a % b * k
mod_times a b k hb hk =
    ap (λ (n : ℕ). n % (b * k)) (split (a / b) b (a % b) k (div-add-mod' a b)) ∙ digits_mod (a / b) (mul-lt-mul_of_pos_right (mod-lt a hb) hk)
  where
    split : (q b r k : ℕ) → q * b + r ≡ a → a * k ≡ q * (b * k) + r * k
    split q b r k e = omega (arith, ap (λ (n : ℕ). n * k) e)

gcd_times' : (j a b k : ℕ) → b < j → 0 < k → gcd_of (a * k) (b * k) ≡ gcd_of a b * k
gcd_times' zero a b k h p = let z : ⊥ = omega arith in absurd z
gcd_times' (suc j) a zero k h p = rw (zero-mul k, gcd_zero a, gcd_zero (a * k))
gcd_times' (suc j) a (suc b) k h p =
    let m : a % suc b < suc b = mod-lt a (zero-lt-suc b) in
    gcd_step (a * k) (suc b * k) (λ e. omega arith)
    ∙ ap (gcd_of (suc b * k)) (mod_times a (suc b) k (zero-lt-suc b) p)
    ∙ gcd_times' j (suc b) (a % suc b) k (omega arith) p
    ∙ ap (λ (n : ℕ). n * k) (sym (gcd_step a (suc b) (λ e. omega arith)))

pub gcd_times : (a b k : ℕ) → 0 < k → gcd_of (a * k) (b * k) ≡ gcd_of a b * k
gcd_times a b k p = gcd_times' (suc b) a b k (omega arith) p

-- a divisor of a product that has no factor in common with one of its factors divides the other
pub euclid : (d n k : ℕ) → 0 < k → gcd_of n d ≡ 1 → d ∣ n * k → d ∣ k
euclid d n k p e h =
    subst (λ (x : ℕ). d ∣ x) (gcd_times n d k p ∙ ap (λ (g : ℕ). g * k) e ∙ one-mul k) (gcd_greatest d (n * k) (d * k) h (dvd-mul_right d k))

-- two fractions in lowest terms with equal cross products are the same
module _ (a b c d : ℕ) (hb : 0 < b) (hd : 0 < d) (p : gcd_of a b ≡ 1) (q : gcd_of c d ≡ 1) (e : a * d ≡ c * b) where
  pub same_den : b ≡ d
  same_den =
      dvd_antisymm (euclid b a d hd p (subst (λ (x : ℕ). b ∣ x) (sym e) (dvd-mul_left b c)))
      (euclid d c b hb q (subst (λ (x : ℕ). d ∣ x) e (dvd-mul_left d a)))

  pub same_num : a ≡ c
  same_num = eq_of_mul-eq-mul_right b hb a c (ap (λ (x : ℕ). a * x) same_den ∙ e)

-- two numbers divided by their greatest common divisor have none left
pub gcd_over : (a d : ℕ) → 0 < d → gcd_of (a / gcd_of a d) (d / gcd_of a d) ≡ 1
gcd_over a d h =
    let g = gcd_of a d in
    let k = gcd_of (a / g) (d / g) in
    let p : g * k ∣ a = subst (λ (n : ℕ). g * k ∣ n) (mul-div_cancel' g (gcd_left a d)) (mul-dvd-mul_left k g (gcd_left (a / g) (d / g))) in
    let q : g * k ∣ d = subst (λ (n : ℕ). g * k ∣ n) (mul-div_cancel' g (gcd_right a d)) (mul-dvd-mul_left k g (gcd_right (a / g) (d / g))) in
    let r : g * k ∣ g * one = subst (λ (n : ℕ). g * k ∣ n) (sym (mul-one g)) (gcd_greatest (g * k) a d p q) in
    eq-one_of_dvd-one (dvd_of_mul-dvd-mul_left k (gcd_pos a d h) r)

-- the divisor of 0 and a number is the number
pub gcd_of_zero : (d : ℕ) → 0 < d → gcd_of 0 d ≡ d
gcd_of_zero d h = gcd_step 0 d (λ e. omega arith) ∙ ap (gcd_of d) (zero-mod d) ∙ gcd_zero d
