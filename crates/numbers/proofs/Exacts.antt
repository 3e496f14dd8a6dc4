-- Numbers as a sign and two words: their laws over ℤ. Assumes nothing.
use mathlib.Core.Path.{◌≡◌, refl, sym, ap, ◌∙◌}
use mathlib.Core.Bool.{Bool, true, false, not, beq}
use Prim.Native.Nat.{ℕ, zero, suc, ◌+◌, ◌-◌, ◌*◌, ◌<◌, ◌≤◌, ◌^◌, min}
use native.Mathlib.Nat.{mul-zero, zero-add, zero-mul, mul-le-mul, add-le-add, lt_of_le_of_lt, le_of_eq, le_trans, le_of_suc-le-suc}
use native.Mathlib.Omega.{arith}
use lib.Dec.{eqb, leb, lit<}
use lib.Signed.{mag, nat_abs-le}
use lib.IntN.{ℤ, pos, negsuc, neg_ℤ, nat_abs, sub_ℕ, ◌+ℤ◌, ◌*ℤ◌, neg_ℤ-+ℤ, neg_ℤ-neg_ℤ}
use borrow.Author.Tests.{lt-ltb, le-ltb, lt-leb, le-leb, ne_eqb}
use Rattle.numbers.specs.declared.exact.Wide.{Wide}
use Rattle.numbers.specs.declared.exact.Exact.{Exact}
use Rattle.numbers.specs.Signs.{is_neg, with_sign}
use Rattle.numbers.specs.Exacts.{size_of, wide_of}
use Rattle.numbers.specs.Exacts.{value_of, exact_of}
use Rattle.numbers.proofs.Words.{words, size_wide, by_order}

-- ---- a sign and a magnitude

pub abs_sign : (b : Bool) (n : ℕ) → nat_abs (with_sign b n) ≡ n
abs_sign true zero = refl
abs_sign true (suc n) = refl
abs_sign false n = refl

pub sign_abs : (z : ℤ) → with_sign (is_neg z) (nat_abs z) ≡ z
sign_abs (pos n) = refl
sign_abs (negsuc n) = refl

pub neg_sign : (b : Bool) (n : ℕ) → ((n ≡ 0) → ⊥) → is_neg (with_sign b n) ≡ b
neg_sign true zero f = absurd (f refl)
neg_sign true (suc n) f = refl
neg_sign false n f = refl

neg_zero : (b : Bool) → is_neg (with_sign b 0) ≡ false
neg_zero true = refl
neg_zero false = refl

-- ---- made of a flag and two words

wide_size : (w : Wide) → w.lo < 2 ^ 64 → w ≡ wide_of (size_of w)
wide_size w h = words (size_of w) w.hi w.lo h refl

module _ (b : Bool) (w : Wide) (h : w.lo < 2 ^ 64) where
  pub made : ((size_of w ≡ 0) → ⊥) → record { neg = b; size = w } ≡ exact_of (with_sign b (size_of w))
  unfolding value_of exact_of
  made f = λ i. record { neg = sym (neg_sign b (size_of w) f) i; size = (wide_size w h ∙ ap wide_of (sym (abs_sign b (size_of w)))) i }

  pub made_zero : size_of w ≡ 0 → record { neg = false; size = w } ≡ exact_of (with_sign b (size_of w))
  unfolding value_of exact_of
  made_zero e = λ i. record { neg = sym (ap (λ (n : ℕ). is_neg (with_sign b n)) e ∙ neg_zero b) i; size = (wide_size w h ∙ ap wide_of (sym (abs_sign b (size_of w)))) i }

-- the number of a number's sign and words
pub value_exact : (z : ℤ) → value_of (exact_of z) ≡ z
unfolding value_of exact_of
value_exact z = ap (with_sign (is_neg z)) (size_wide (nat_abs z)) ∙ sign_abs z

-- ---- differences and sums

pub sub_neg : (a b : ℕ) → a < b → sub_ℕ a b ≡ with_sign true (b - a)
sub_neg a b h = rw (lt-ltb a b h) (minus (b - a) (b - suc a) (omega arith))
  where
    minus : (n k : ℕ) → n ≡ suc k → negsuc k ≡ neg_ℤ (pos n)
    minus n k e = rw e

pub sub_pos : (a b : ℕ) → b ≤ a → sub_ℕ a b ≡ with_sign false (a - b)
sub_pos a b h = rw (le-ltb a b h)

pub neg+neg : (a b : ℕ) → with_sign true a +ℤ with_sign true b ≡ with_sign true (a + b)
neg+neg a b = sym (neg_ℤ-+ℤ (pos a) (pos b))

pub neg+pos : (a b : ℕ) → with_sign true a +ℤ with_sign false b ≡ sub_ℕ b a
neg+pos zero b = ap pos (omega arith) ∙ sym (sub_pos b 0 (omega arith))
neg+pos (suc a) b = refl

pub pos+neg : (a b : ℕ) → with_sign false a +ℤ with_sign true b ≡ sub_ℕ a b
pos+neg a zero = ap pos (omega arith) ∙ sym (sub_pos a 0 (omega arith))
pos+neg a (suc b) = refl

-- ---- products

pub product_sign : (x : ℤ) (neg : Bool) (v : ℕ) → with_sign (not (beq (is_neg x) neg)) (nat_abs x * v) ≡ x *ℤ with_sign neg v
product_sign (pos a) true zero = rw (mul-zero a)
product_sign (pos a) true (suc v) = refl
product_sign (pos a) false v = refl
product_sign (negsuc a) true zero = rw (mul-zero (suc a))
product_sign (negsuc a) true (suc v) = refl
product_sign (negsuc a) false v = refl

-- the product with a negative number
pub times_neg : (x : ℤ) (v : ℕ) → x *ℤ with_sign true v ≡ neg_ℤ (x *ℤ pos v)
times_neg (pos a) zero = rw (mul-zero a)
times_neg (pos a) (suc v) = refl
times_neg (negsuc a) zero = rw (mul-zero (suc a))
times_neg (negsuc a) (suc v) = sym (neg_ℤ-neg_ℤ (pos (suc a * suc v)))

-- the size and the sign of a product with a number above 0
pub abs_times : (x : ℤ) (d : ℕ) → nat_abs (x *ℤ pos d) ≡ nat_abs x * d
abs_times (pos a) d = refl
abs_times (negsuc a) d = abs_sign true (suc a * d)

pub neg_times : (x : ℤ) (d : ℕ) → 0 < d → is_neg (x *ℤ pos d) ≡ is_neg x
neg_times (pos a) d h = refl
neg_times (negsuc a) d h = neg_sign true (suc a * d) (λ e. omega arith)

-- ---- two words are 0

pub both_zero : (m h l : ℕ) → h ≡ 0 → eqb l 0 ≡ eqb (h * m + l) 0
both_zero m h l e = rw (e, zero-mul m, zero-add l)

pub not_zero : (m h l : ℕ) → 0 < m → ((h ≡ 0) → ⊥) → eqb (h * m + l) 0 ≡ false
not_zero m zero l p f = absurd (f refl)
not_zero m (suc h) l p f = ne_eqb (suc h * m + l) 0 (λ e. omega arith)

-- what is worked out of two numbers whose signs are known
pub signs_known : {A : Type 0} (op : ℤ → ℤ → A) (x y : Exact) (p q : Bool) → x.neg ≡ p → y.neg ≡ q → op (value_of x) (value_of y) ≡ op (with_sign p (size_of x.size)) (with_sign q (size_of y.size))
unfolding value_of
signs_known op x y p q e f = λ i. op (with_sign (e i) (size_of x.size)) (with_sign (f i) (size_of y.size))

-- ---- what follows from the parts' contracts

pub valued : (e : Exact) (z : ℤ) → e ≡ exact_of z → value_of e ≡ z
valued e z p = ap value_of p ∙ value_exact z

-- and its sign is the number's, of 0 too
pub sign_of : (e : Exact) (z : ℤ) → e ≡ exact_of z → e.neg ≡ is_neg (value_of e)
unfolding exact_of
sign_of e z p = ap (λ (x : Exact). x.neg) p ∙ ap is_neg (sym (valued e z p))

-- r is worked out of two numbers that are known
pub worked : {A : Type 0} (op : ℤ → ℤ → A) (x y : Exact) (r : A) (a b : ℤ) → x ≡ exact_of a → y ≡ exact_of b → r ≡ op (value_of x) (value_of y) → r ≡ op a b
worked op x y r a b p q h = h ∙ (λ i. op (valued x a p i) (valued y b q i))

pub sign_abs_of : (z : ℤ) (b : Bool) (n : ℕ) → b ≡ is_neg z → n ≡ nat_abs z → with_sign b n ≡ z
sign_abs_of z b n p q = (λ i. with_sign (p i) (q i)) ∙ sign_abs z

-- ---- sizes

-- the product of an i64 and a u64
pub product_small : (x : ℤ) (b : Bool) (v : ℕ) (e : Exact) → mag x < 2 ^ 63 → v < 2 ^ 64 → e ≡ exact_of (x *ℤ with_sign b v) → size_of e.size ≤ 2 ^ 63 * (2 ^ 64 - 1)
unfolding exact_of
product_small x b v e hx hv p =
    le_trans
    (le_of_eq (ap (λ (y : Exact). size_of y.size) p ∙ size_wide (nat_abs (x *ℤ with_sign b v)) ∙ ap nat_abs (sym (product_sign x b v)) ∙ abs_sign (not (beq (is_neg x) b)) (nat_abs x * v)))
    (mul-le-mul (nat_abs-le x hx) (le_of_suc-le-suc hv))

pub sum_small : {a b : ℕ} → a ≤ 2 ^ 63 * (2 ^ 64 - 1) → b ≤ 2 ^ 63 * (2 ^ 64 - 1) → a + b < 2 ^ 128
sum_small p q = lt_of_le_of_lt (add-le-add p q) (lit< tt)

-- a number of two words, whose upper word is 0 or not, stopped at one word
pub low_only : (h l : ℕ) → h ≡ 0 → l < 2 ^ 64 → l ≡ min (h * 2 ^ 64 + l) (2 ^ 64 - 1)
low_only h l e p = omega (arith, e)

pub past_low : (h l : ℕ) → ((h ≡ 0) → ⊥) → 2 ^ 64 - 1 ≡ min (h * 2 ^ 64 + l) (2 ^ 64 - 1)
past_low zero l f = absurd (f refl)
past_low (suc h) l f = omega arith

-- a test against a number below the stop
pub leb_min : (n most k : ℕ) → k < most → leb (min n most) k ≡ leb n k
leb_min n most k h = by_order k n above (λ p. le-leb (min n most) k (omega arith) ∙ sym (le-leb n k p))
  where
    above : k < n → leb (min n most) k ≡ leb n k
    above p = lt-leb (min n most) k (omega arith) ∙ sym (lt-leb n k p)
