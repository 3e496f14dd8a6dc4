-- A new beat is in lowest terms and has the fraction's value, and a beat is its value: equal fractions have one beat.
use Rattle.std.proofs.Common.{◌≡◌, ℕ, suc, ◌*◌, ◌/◌, ◌<◌, ◌≤◌, max, Bool, true, ◌&&◌, leb, ℤ, pos, negsuc, ◌*ℤ◌, neg_ℤ, nat_abs, sym, refl, ap, ◌∙◌, subst, le_trans, mul_assoc, le-div_iff_mul-le, div-le_self, mul_right_comm, div-one, arith, le-leb, leb-true}
use Prim.Native.Nat.{◌∣◌}
use native.Mathlib.Nat.{div-mul_cancel, dvd-mul_left}
use lib.Signed.{mag, quot_z}
use Rattle.numbers.specs.Divisor.{gcd_of}
use Rattle.numbers.specs.Signs.{is_neg, with_sign, fits_i64}
use Rattle.numbers.proofs.Laws.{gcd_left, gcd_right, gcd_pos, gcd_le, gcd_over, euclid, same_den, same_num, abs_sign, sign_abs, abs_times, neg_times, minus_times, mag_quot, and_left, and_right}
use Rattle.beats.specs.declared.Beat.{Beat}
use Rattle.beats.specs.Beats.{lowest, new_beat}
use Rattle.beats.specs.Sums.{storable}

-- ---- lowest terms

pub abs_quot : (z : ℤ) (g : ℕ) → nat_abs (quot_z z (pos g)) ≡ nat_abs z / g
abs_quot (pos a) g = refl
abs_quot (negsuc a) g = abs_sign true (suc a / g)

pub lowest_terms : (n : ℤ) (d : ℕ) → gcd_of (nat_abs (new_beat n d).num) (new_beat n d).den ≡ 1
unfolding new_beat lowest
lowest_terms n d =
    ap (λ (size : ℕ). gcd_of size (new_beat n d).den) (abs_quot n (gcd_of (nat_abs n) (max d 1))) ∙ gcd_over (nat_abs n) (max d 1) (omega arith)

pub den_pos : (n : ℤ) (d : ℕ) → 0 < (new_beat n d).den
unfolding new_beat lowest
den_pos n d = (le-div_iff_mul-le (gcd_pos (nat_abs n) (max d 1) (omega arith))).1 (omega (arith, gcd_le (nat_abs n) (max d 1) (omega arith)))

-- ---- reducing only shrinks

from_mag : (z : ℤ) → mag z ≤ 9223372036854775807 → fits_i64 z ≡ true
from_mag (pos n) h = le-leb n 9223372036854775807 h
from_mag (negsuc n) h = ap (λ (b : Bool). b && true) (le-leb n 9223372036854775807 h)

to_mag : (z : ℤ) → fits_i64 z ≡ true → mag z ≤ 9223372036854775807
to_mag (pos n) e = leb-true n 9223372036854775807 e
to_mag (negsuc n) e = leb-true n 9223372036854775807 (and_left (leb n 9223372036854775807) true e)

-- two numbers that can be stored can be stored in lowest terms
pub new_storable : (n : ℤ) (d : ℕ) → storable n d ≡ true → storable (new_beat n d).num (new_beat n d).den ≡ true
unfolding new_beat lowest
new_storable n d e =
    let g = gcd_of (nat_abs n) (max d 1) in
    let l : d ≤ 4294967295 = leb-true d 4294967295 (and_right (fits_i64 n) (leb d 4294967295) e) in
    let num = from_mag (quot_z n (pos g)) (le_trans (mag_quot n g) (to_mag n (and_left (fits_i64 n) (leb d 4294967295) e))) in
    let den = le-leb (max d 1 / g) 4294967295 (le_trans (div-le_self (max d 1) g) (omega arith)) in
    λ i. num i && den i

-- ---- the same value

cross : (a d : ℕ) → a / gcd_of a d * d ≡ a * (d / gcd_of a d)
cross a d =
    let g = gcd_of a d in
    ap (λ (n : ℕ). a / g * n) (sym (div-mul_cancel g (gcd_right a d)))
    ∙ sym (mul_assoc (a / g) (d / g) g) ∙ mul_right_comm (a / g) (d / g) g
    ∙ ap (λ (n : ℕ). n * (d / g)) (div-mul_cancel g (gcd_left a d))

pub same_value : (n : ℤ) (d : ℕ) → (new_beat n d).num *ℤ pos (max d 1) ≡ n *ℤ pos (new_beat n d).den
unfolding new_beat lowest
same_value (pos a) d = ap pos (cross a (max d 1))
same_value (negsuc a) d = minus_times (pos (suc a / gcd_of (suc a) (max d 1))) (max d 1) ∙ ap (λ (k : ℕ). neg_ℤ (pos k)) (cross (suc a) (max d 1))

-- ---- a beat in lowest terms stays as it is

quot_one : (z : ℤ) → quot_z z (pos 1) ≡ z
quot_one (pos a) = ap pos (div-one a)
quot_one (negsuc a) = rw (div-one (suc a))

-- numbers that have no common factor stay as they are
pub kept : (n : ℤ) (d e : ℕ) → d ≡ max e 1 → gcd_of (nat_abs n) d ≡ 1 → record { num = n; den = d } ≡ new_beat n e
unfolding new_beat lowest
kept n d e m g = rw (← m, g, quot_one n, div-one d)

-- ---- equal values

-- a beat is its value
pub same_beat : (a b : Beat) → 0 < a.den → 0 < b.den → gcd_of (nat_abs a.num) a.den ≡ 1 → gcd_of (nat_abs b.num) b.den ≡ 1 → a.num *ℤ pos b.den ≡ b.num *ℤ pos a.den → a ≡ b
same_beat a b ha hb p q e =
    let f : nat_abs a.num * b.den ≡ nat_abs b.num * a.den
    = sym (abs_times a.num b.den) ∙ ap nat_abs e ∙ abs_times b.num a.den in
    let s : is_neg a.num ≡ is_neg b.num
    = sym (neg_times a.num b.den hb) ∙ ap is_neg e ∙ neg_times b.num a.den ha in
    let n : nat_abs a.num ≡ nat_abs b.num = same_num (nat_abs a.num) a.den (nat_abs b.num) b.den ha hb p q f in
    let d : a.den ≡ b.den = same_den (nat_abs a.num) a.den (nat_abs b.num) b.den ha hb p q f in
    let m : a.num ≡ b.num = sym (sign_abs a.num) ∙ (λ i. with_sign (s i) (n i)) ∙ sign_abs b.num in
    λ i. record { num = m i; den = d i }

-- the denominator of a fraction in lowest terms divides that of any fraction with its value
pub den_divides : (b : Beat) (m : ℤ) (k : ℕ) → 0 < b.den → 0 < k → gcd_of (nat_abs b.num) b.den ≡ 1 → b.num *ℤ pos k ≡ m *ℤ pos b.den → b.den ∣ k
den_divides b m k hb hk p e =
    let f : nat_abs b.num * k ≡ nat_abs m * b.den = sym (abs_times b.num k) ∙ ap nat_abs e ∙ abs_times m b.den in
    euclid b.den (nat_abs b.num) k hk p (subst (λ (x : ℕ). b.den ∣ x) (sym f) (dvd-mul_left b.den (nat_abs m)))
