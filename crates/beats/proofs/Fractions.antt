-- Beats go by their values: two beats over one denominator add, and compare, as their numerators do, whatever the size of the sum.
use Rattle.std.proofs.Common.{◌≡◌, ℕ, ◌+◌, ◌*◌, ◌<◌, ◌≤◌, true, false, ◌&&◌, eqb, ℤ, pos, ◌+ℤ◌, ◌*ℤ◌, sym, refl, ap, ◌∙◌, le_trans, le_of_eq, add-le-add, mul-le-mul_right, mul_assoc, mul-le-mul, mul-le-mul_left, mul-pos, mul_right_comm, le_of_mul-le-mul_right, arith, le-leb}
use native.Mathlib.Nat.{le_of_dvd}
use lib.Signed.{lt_z}
use Rattle.std.specs.declared.cmp.Ordering.{Ordering}
use Rattle.std.specs.Ordering.{is_lt}
use Rattle.std.specs.declared.cmp.Ordering.TheVariants.{Less, Equal, Greater}
use Rattle.numbers.specs.Answers.{accepted}
use Rattle.numbers.proofs.Laws.{cases, not_both, factor_zero, up, down, natural, up_times, down_times, sum_times, gcd_of_zero, less_is, turned}
use Rattle.beats.specs.declared.Beat.{Beat}
use Rattle.beats.specs.Beats.{new_beat, is_beat, zero_beat}
use Rattle.beats.specs.Sums.{fitted, add_beats, mul_beat, sum_of, order_of_beats, below_beat}
use Rattle.beats.specs.Values.{Worth}
use Rattle.beats.proofs.Lowest.{den_divides}
use Rattle.beats.proofs.Refusing.{beat_above, beat_lowest}
use Rattle.beats.proofs.Fitted.{fit}
use Rattle.beats.proofs.Values.{new_is_beat, new_value, value_same, accepted_is, accepted_beat, cross, sum_value, scaled_value}
use Rattle.beats.proofs.Ordering.{below_is, order_same, order_exchanged, order_equal, below_trans, order_values}

-- ---- a beat that is n / d

module _ (beat : Beat) (n d : ℕ) (above : 0 < d) (v : Worth beat (pos n) d) where
  pub value_forward : down beat.num ≡ 0
  value_forward = factor_zero (down beat.num) d above (sym (down_times beat.num d) ∙ ap down v)

  module _ (fine : is_beat beat ≡ true) where
    -- in lowest terms it is at most d and n
    pub value_den : beat.den ≤ d
    value_den = le_of_dvd above (den_divides beat (pos n) d (beat_above beat fine) above (beat_lowest beat fine) v)

    pub value_num : up beat.num ≤ n
    value_num = le_of_mul-le-mul_right (le_trans (le_of_eq (sym (up_times beat.num d) ∙ ap up v)) (mul-le-mul_left n value_den)) above

-- ---- sums of any size

pub zero_beat_lem : is_beat zero_beat ≡ true
zero_beat_lem = ap (λ (n : ℕ). true && eqb n 1) (gcd_of_zero 1 (omega arith))

module _ (a b : Beat) where
  pub sum_beat : is_beat (sum_of a b) ≡ true
  unfolding sum_of
  sum_beat = new_is_beat (a.num *ℤ pos b.den +ℤ b.num *ℤ pos a.den) (a.den * b.den)

  pub sum_is : (c : Beat) → add_beats a b ≡ accepted c → c ≡ sum_of a b
  unfolding sum_of
  sum_is c e = accepted_is (a.num *ℤ pos b.den +ℤ b.num *ℤ pos a.den) (a.den * b.den) c e

  pub sum_has : (x y : ℤ) (d : ℕ) → 0 < a.den → 0 < b.den → Worth a x d → Worth b y d → Worth (sum_of a b) (x +ℤ y) d
  unfolding sum_of
  sum_has x y d p q v w =
      let num = a.num *ℤ pos b.den +ℤ b.num *ℤ pos a.den in
      value_same (sum_of a b) num (x +ℤ y) (a.den * b.den) d (mul-pos p q) (cross ◌+ℤ◌ sum_times a b x y d v w) (new_value num (a.den * b.den) (mul-pos p q))

-- ---- the order

pub below_values : (a b : Beat) (x y : ℤ) (d : ℕ) → 0 < a.den → 0 < b.den → 0 < d → Worth a x d → Worth b y d → below_beat a b ≡ lt_z x y
below_values a b x y d p q h v w = sym (below_is a b) ∙ ap is_lt (order_values a b x y d p q h v w) ∙ less_is x y

pub below_same : (a : Beat) → below_beat a a ≡ false
below_same a = sym (below_is a a) ∙ ap is_lt (order_same a)

-- where c is not below a, and a not below b, c is not below b
pub not_below : (a b c : Beat) → is_beat a ≡ true → is_beat b ≡ true → is_beat c ≡ true → below_beat c a ≡ false → below_beat a b ≡ false → below_beat c b ≡ false
not_below a b c p q r s t = cases (below_beat c b) (λ u. not_both (below_beat c a) (by_case (order_of_beats a b) refl u) s) (λ u. u)
  where
    by_case : (o : Ordering) → order_of_beats a b ≡ o → below_beat c b ≡ true → below_beat c a ≡ true
    by_case Less e u = not_both (below_beat a b) (sym (below_is a b) ∙ ap is_lt e) t
    by_case Equal e u = ap (below_beat c) (order_equal a b p q e) ∙ u
    by_case Greater e u = below_trans c b a (beat_above c r) (beat_above b q) (beat_above a p) u (sym (below_is b a) ∙ ap is_lt (order_exchanged a b ∙ ap turned e))

-- ---- operations that are not refused

-- two natural numbers within the limits of a beat
small_accepted : (n d : ℕ) → n ≤ 9223372036854775807 → d ≤ 4294967295 → fitted (pos n) d ≡ accepted (new_beat (pos n) d)
small_accepted n d h k = sym (fit (pos n) d (λ i. le-leb n 9223372036854775807 h i && le-leb d 4294967295 k i))

-- a beat that is n / d
pub record Is (beat : Beat) (n d : ℕ) : Type 0 where
  pub fine : is_beat beat ≡ true
  pub value : Worth beat (pos n) d

pub is_same : {beat : Beat} (n m d e : ℕ) → 0 < d → n * e ≡ m * d → Is beat n d → Is beat m e
is_same {beat} n m d e above q b = record { fine = b.fine; value = value_same beat (pos n) (pos m) d e above (ap pos q) b.value }

-- a multiple
module _ (a : Beat) (x d k : ℕ) (above : 0 < d) (p : Is a x d) (sized : x * k ≤ 9223372036854775807) (fine : d ≤ 4294967295) where
  pub scaled : (c : Beat) × ((mul_beat a (pos k) 1 ≡ accepted c) × Is c (x * k) d)
  scaled =
      let u = up a.num in
      let c = new_beat (pos (u * k)) (a.den * 1) in
      let hu : u * k ≤ x * k = mul-le-mul_right k (value_num a x d above p.value p.fine) in
      let e : mul_beat a (pos k) 1 ≡ accepted c
      = ap (λ (z : ℤ). fitted (z *ℤ pos k) (a.den * 1)) (natural a.num (value_forward a x d above p.value))
      ∙ small_accepted (u * k) (a.den * 1) (le_trans hu sized) (omega (arith, value_den a x d above p.value p.fine)) in
      (c, (e, record { fine = accepted_beat _ _ c e; value = scaled_value a c (pos x) (pos k) d (beat_above a p.fine) p.value e }))

-- a sum
module _ (a b : Beat) (x y d e : ℕ) (hd : 0 < d) (he : 0 < e) (p : Is a x d) (q : Is b y e) (sized : x * e + y * d ≤ 9223372036854775807) (fine : d * e ≤ 4294967295) where
  pub added : (c : Beat) × ((add_beats a b ≡ accepted c) × Is c (x * e + y * d) (d * e))
  added =
      let u = up a.num in
      let w = up b.num in
      let c = new_beat (pos (u * b.den + w * a.den)) (a.den * b.den) in
      let pd = value_den a x d hd p.value p.fine in
      let qd = value_den b y e he q.value q.fine in
      let r : add_beats a b ≡ accepted c
      = (λ i. fitted (natural a.num (value_forward a x d hd p.value) i *ℤ pos b.den +ℤ natural b.num (value_forward b y e he q.value) i *ℤ pos a.den) (a.den * b.den))
      ∙ small_accepted (u * b.den + w * a.den) (a.den * b.den)
      (le_trans (add-le-add (mul-le-mul (value_num a x d hd p.value p.fine) qd) (mul-le-mul (value_num b y e he q.value q.fine) pd)) sized)
      (le_trans (mul-le-mul pd qd) fine) in
      let pv : Is a (x * e) (d * e) = is_same x (x * e) d (d * e) hd (sym (mul_assoc x d e) ∙ mul_right_comm x d e) p in
      let qv : Is b (y * d) (d * e) = is_same y (y * d) e (d * e) he (sym (mul_assoc y d e)) q in (
        c,
        (
          r,
          record {
            fine = accepted_beat _ _ c r;
            value = sum_value a b c (pos (x * e)) (pos (y * d)) (d * e) (beat_above a p.fine) (beat_above b q.fine) pv.value qv.value r;
          },
        ),
      )
