-- ℤ for `omega`: each number has a part above zero and a part below, and an equation, an order, a sum or a product with a
-- natural number is one of the parts. Assumes nothing.
use mathlib.Core.Path.{◌≡◌, refl, sym, ap, ◌∙◌}
use mathlib.Core.Bool.{true, false}
use Prim.Native.Nat.{ℕ, zero, suc, ◌+◌, ◌*◌, ◌<◌, ◌≤◌}
use native.Mathlib.Nat.{zero-mul, mul_comm, eq_of_mul-eq-mul_right}
use native.Mathlib.Omega.{arith}
use lib.Dec.{T, ltb→lt, lt→ltb}
use lib.IntN.{ℤ, pos, negsuc, neg_ℤ, sub_ℕ, ◌+ℤ◌, ◌-ℤ◌, ◌*ℤ◌, *ℤ-negsuc}
use lib.Signed.{lt_z, le_z}
use borrow.Author.Tests.{lt-ltb, le-ltb}
use borrow.Table.Steps.{cases}
use Rattle.numbers.proofs.Flags.{never, holds}
use Rattle.numbers.proofs.Words.{by_order}

abbrev pub up : ℤ → ℕ
up (pos n) = n
up (negsuc n) = 0

abbrev pub down : ℤ → ℕ
down (pos n) = 0
down (negsuc n) = suc n

-- ---- equations and orders

pub eq_parts : (x y : ℤ) → up x + down y ≡ up y + down x → x ≡ y
eq_parts (pos a) (pos b) e = ap pos (omega arith)
eq_parts (pos a) (negsuc b) e = let z : ⊥ = omega arith in absurd z
eq_parts (negsuc a) (pos b) e = let z : ⊥ = omega arith in absurd z
eq_parts (negsuc a) (negsuc b) e = ap negsuc (omega arith)

pub lt_parts : (x y : ℤ) → T (lt_z x y) → up x + down y < up y + down x
lt_parts (pos a) (pos b) t = omega (arith, ltb→lt a b t)
lt_parts (pos a) (negsuc b) t = absurd t
lt_parts (negsuc a) (pos b) t = omega arith
lt_parts (negsuc a) (negsuc b) t = omega (arith, ltb→lt b a t)

pub parts_lt : (x y : ℤ) → up x + down y < up y + down x → T (lt_z x y)
parts_lt (pos a) (pos b) h = lt→ltb a b (omega arith)
parts_lt (pos a) (negsuc b) h = let z : ⊥ = omega arith in absurd z
parts_lt (negsuc a) (pos b) h = tt
parts_lt (negsuc a) (negsuc b) h = lt→ltb b a (omega arith)

-- ---- sums

-- of a - b
sub_parts : (a b : ℕ) → up (sub_ℕ a b) + b ≡ down (sub_ℕ a b) + a
sub_parts a b = by_order a b (λ h. rw (lt-ltb a b h) (omega arith)) (λ h. rw (le-ltb a b h) (omega arith))

pub sum_parts : (x y : ℤ) → up (x +ℤ y) + (down x + down y) ≡ down (x +ℤ y) + (up x + up y)
sum_parts (pos a) (pos b) = omega arith
sum_parts (pos a) (negsuc b) = omega (arith, sub_parts a (suc b))
sum_parts (negsuc a) (pos b) = omega (arith, sub_parts b (suc a))
sum_parts (negsuc a) (negsuc b) = omega arith

pub up_neg : (x : ℤ) → up (neg_ℤ x) ≡ down x
up_neg (pos zero) = refl
up_neg (pos (suc n)) = refl
up_neg (negsuc n) = refl

pub down_neg : (x : ℤ) → down (neg_ℤ x) ≡ up x
down_neg (pos zero) = refl
down_neg (pos (suc n)) = refl
down_neg (negsuc n) = refl

-- a number that is not below zero is a natural number, and adding it does not go below
pub not_negative : (z : ℤ) → le_z (pos 0) z ≡ true → down z ≡ 0
not_negative (pos n) e = refl
not_negative (negsuc n) e = never e

pub natural : (z : ℤ) → down z ≡ 0 → z ≡ pos (up z)
natural (pos n) e = refl
natural (negsuc n) e = let z : ⊥ = omega arith in absurd z

not_less : (x y : ℤ) → up y + down x ≤ up x + down y → lt_z x y ≡ false
not_less x y h = cases (lt_z x y) (λ t. absurd (no (lt_parts x y (holds (lt_z x y) t)))) (λ t. t)
  where
    no : up x + down y < up y + down x → ⊥
    no l = omega arith

pub grows : (x y : ℤ) → down y ≡ 0 → lt_z (x +ℤ y) x ≡ false
grows x y h = not_less (x +ℤ y) x (omega (arith, sum_parts x y))

-- ---- products with a natural number

pub up_times : (x : ℤ) (k : ℕ) → up (x *ℤ pos k) ≡ up x * k
up_times (pos a) k = refl
up_times (negsuc a) k = up_neg (pos (suc a * k)) ∙ sym (zero-mul k)

pub down_times : (x : ℤ) (k : ℕ) → down (x *ℤ pos k) ≡ down x * k
down_times (pos a) k = sym (zero-mul k)
down_times (negsuc a) k = down_neg (pos (suc a * k))

-- ---- what follows: each by its parts

pub times_times : (x : ℤ) (d f : ℕ) → x *ℤ pos d *ℤ pos f ≡ x *ℤ pos (d * f)
times_times x d f =
    eq_parts (x *ℤ pos d *ℤ pos f) (x *ℤ pos (d * f))
    (simp (up_times, down_times) (omega arith))

pub sum_times : (x y : ℤ) (k : ℕ) → (x +ℤ y) *ℤ pos k ≡ x *ℤ pos k +ℤ y *ℤ pos k
sum_times x y k =
    eq_parts ((x +ℤ y) *ℤ pos k) (x *ℤ pos k +ℤ y *ℤ pos k)
    (omega (arith, up_times (x +ℤ y) k, down_times (x +ℤ y) k, up_times x k, down_times x k, up_times y k, down_times y k, sum_parts (x *ℤ pos k) (y *ℤ pos k), ap (λ (n : ℕ). n * k) (sum_parts x y)))

pub lt_trans : (x y z : ℤ) → T (lt_z x y) → T (lt_z y z) → T (lt_z x z)
lt_trans x y z s t = parts_lt x z (omega (arith, lt_parts x y s, lt_parts y z t))

-- the factors in another order
pub swapped : (x : ℤ) (d f : ℕ) → x *ℤ pos d *ℤ pos f ≡ x *ℤ pos f *ℤ pos d
swapped x d f = times_times x d f ∙ ap (λ (n : ℕ). x *ℤ pos n) (mul_comm d f) ∙ sym (times_times x f d)

pub minus_times : (x : ℤ) (k : ℕ) → neg_ℤ x *ℤ pos k ≡ neg_ℤ (x *ℤ pos k)
minus_times x k =
    eq_parts (neg_ℤ x *ℤ pos k) (neg_ℤ (x *ℤ pos k))
    (simp (up_times, down_times, up_neg, down_neg) (omega arith))

pub gap_times : (x y : ℤ) (k : ℕ) → (x -ℤ y) *ℤ pos k ≡ x *ℤ pos k -ℤ y *ℤ pos k
gap_times x y k = sum_times x (neg_ℤ y) k ∙ ap (λ (z : ℤ). x *ℤ pos k +ℤ z) (minus_times y k)

-- with a signed factor
pub swapped_signed : (x n : ℤ) (k : ℕ) → x *ℤ n *ℤ pos k ≡ x *ℤ pos k *ℤ n
swapped_signed x (pos m) k = swapped x m k
swapped_signed x (negsuc m) k =
    ap (λ (z : ℤ). z *ℤ pos k) (*ℤ-negsuc x m)
    ∙ minus_times (x *ℤ pos (suc m)) k
    ∙ ap neg_ℤ (swapped x (suc m) k)
    ∙ sym (*ℤ-negsuc (x *ℤ pos k) m)

pub times_cancel : (x y : ℤ) (k : ℕ) → 0 < k → x *ℤ pos k ≡ y *ℤ pos k → x ≡ y
times_cancel x y k h e =
    eq_parts x y (eq_of_mul-eq-mul_right k h (up x + down y) (up y + down x) m)
  where
    m : (up x + down y) * k ≡ (up y + down x) * k
    m = omega (arith, up_times x k, down_times x k, up_times y k, down_times y k, ap up e, ap down e)

-- what is added to both is no matter
pub sums_apart : (x y z : ℤ) → (x +ℤ z) -ℤ (y +ℤ z) ≡ x -ℤ y
sums_apart x y z =
    eq_parts ((x +ℤ z) -ℤ (y +ℤ z)) (x -ℤ y)
    (omega (arith, sum_parts x z, sum_parts y z, sum_parts (x +ℤ z) (neg_ℤ (y +ℤ z)), sum_parts x (neg_ℤ y), up_neg (y +ℤ z), down_neg (y +ℤ z), up_neg y, down_neg y))
