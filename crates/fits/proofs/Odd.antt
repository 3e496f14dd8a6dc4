-- An odd number has no factor in common with a power of two: what divides 16 and an odd multiple of a number divides the number.
use mathlib.Core.Path.{◌≡◌, sym, ◌∙◌, subst}
use Prim.Native.Nat.{ℕ, zero, suc, ◌+◌, ◌-◌, ◌*◌, ◌<◌, ◌≤◌, ◌∣◌}
use native.Mathlib.Nat.{one-mul, mul-pos, mul-le-mul_left, le_of_mul-le-mul_right, le_of_dvd, dvd-mul_left, dvd-mul_left_of_dvd, dvd-mul_right_of_dvd, dvd-sub, mul_assoc}
use native.Mathlib.Omega.{arith}
use Rattle.numbers.specs.Divisor.{gcd_of}
use Rattle.numbers.proofs.Laws.{euclid}

halved : (d q m k : ℕ) → d ∣ (2 * q + 1) * m → d ∣ 2 * k * m → d ∣ k * m
halved d q m k a b = subst (λ (x : ℕ). d ∣ x) (left_over q m k) (dvd-sub d (dvd-mul_left_of_dvd d a k) (dvd-mul_left_of_dvd d b q))
  where
    left_over : (q m k : ℕ) → k * ((2 * q + 1) * m) - q * (2 * k * m) ≡ k * m
    left_over q m k = omega arith

odd_divides : (d q m : ℕ) → d ∣ 16 → d ∣ (2 * q + 1) * m → d ∣ m
odd_divides d q m p a =
    subst (λ (x : ℕ). d ∣ x) (one-mul m) (halved d q m 1 a (halved d q m 2 a (halved d q m 4 a (halved d q m 8 a (dvd-mul_right_of_dvd d p m)))))

-- n / d in lowest terms, d a divisor of 16, times an odd number: u / m is the product, in any terms, and neither number has become smaller
module _ (n d u m q : ℕ) (hd : 0 < d) (hm : 0 < m) (lowest : gcd_of n d ≡ 1) (p : d ∣ 16) (e : u * d ≡ n * (2 * q + 1) * m) where
  pub odd_den : d ≤ m
  odd_den =
      le_of_dvd hm (odd_divides d q m p
      (euclid d n ((2 * q + 1) * m) (mul-pos (above q) hm) lowest (subst (λ (x : ℕ). d ∣ x) (e ∙ mul_assoc n (2 * q + 1) m) (dvd-mul_left d u))))
    where
      above : (q : ℕ) → 0 < 2 * q + 1
      above q = omega arith

  pub odd_num : n * (2 * q + 1) ≤ u
  odd_num = le_of_mul-le-mul_right (subst (λ (x : ℕ). n * (2 * q + 1) * d ≤ x) (sym e) (mul-le-mul_left (n * (2 * q + 1)) odd_den)) hd

-- a number is even or odd
pub by_parity : {X : Type 0} (n : ℕ) → ((q : ℕ) → n ≡ 2 * q → X) → ((q : ℕ) → n ≡ 2 * q + 1 → X) → X
by_parity zero even odd = even 0 (omega arith)
by_parity (suc n) even odd = by_parity n (λ q e. odd q (omega arith)) (λ q e. even (suc q) (omega arith))
