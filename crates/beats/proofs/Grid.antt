-- A beat in lowest terms lies on the grid exactly where its denominator divides the steps a beat (`euclid`).
use Rattle.std.proofs.Common.{◌≡◌, ℕ, ◌*◌, ◌/◌, ◌%◌, ◌<◌, min, Bool, true, false, cond, [], ◌∷◌, ℤ, pos, negsuc, nat_abs, sym, refl, ap, arith, eq-eqb, ne_eqb}
use native.Mathlib.Nat.{dvd_of_mod-eq-zero, mod-eq-zero_of_dvd, dvd-mul_left_of_dvd, mul-div_assoc}
use Rattle.numbers.specs.Answers.{Answer, accepted, refused}
use Rattle.numbers.specs.Divisor.{gcd_of}
use Rattle.numbers.specs.Signs.{is_neg}
use Rattle.numbers.proofs.Laws.{euclid}
use Rattle.beats.specs.Steps.{step_of, on_grid}

module _ (num : ℤ) (den grid : ℕ) where
  abbrev off_grid : Answer ℕ
  off_grid = refused 7 (3 ∷ 0 ∷ 0 ∷ [])

  pub between : 0 < grid → gcd_of (nat_abs num) den ≡ 1 → ((grid % den ≡ 0) → ⊥) → off_grid ≡ on_grid num den grid
  unfolding on_grid
  between above low f =
      sym (ap (λ (t : Bool). cond t (accepted (step_of num den grid)) off_grid)
      (ne_eqb (nat_abs num * grid % den) 0 (λ e. f (mod-eq-zero_of_dvd den (euclid den (nat_abs num) grid above low (dvd_of_mod-eq-zero den e))))))

  module _ (divides : grid % den ≡ 0) where
    pub on : accepted (step_of num den grid) ≡ on_grid num den grid
    unfolding on_grid
    on =
        sym (ap (λ (t : Bool). cond t (accepted (step_of num den grid)) off_grid)
        (eq-eqb (nat_abs num * grid % den) 0 (mod-eq-zero_of_dvd den (dvd-mul_left_of_dvd den (dvd_of_mod-eq-zero den divides) (nat_abs num)))))

-- below zero
pub before_zero : (num : ℤ) (den grid : ℕ) → is_neg num ≡ true → 0 ≡ step_of num den grid
before_zero (pos n) den grid e = cc
before_zero (negsuc n) den grid e = refl

-- from zero on, by the steps in one part of the beat, stopped first at 2^64 - 1
pub from_zero : (num : ℤ) (den grid : ℕ) → grid % den ≡ 0 → is_neg num ≡ false → min (min (nat_abs num * (grid / den)) 18446744073709551615) 4294967295 ≡ step_of num den grid
from_zero (pos n) den grid divides e = omega (arith, mul-div_assoc den n (dvd_of_mod-eq-zero den divides))
from_zero (negsuc n) den grid divides e = cc
