-- The order of two numbers is the sign of their difference: one of three, the other way round when they are exchanged, and equal for the same number only.
use mathlib.Core.Path.{◌≡◌, refl, sym, ap, ◌∙◌}
use mathlib.Core.Bool.{Bool, true, false, cond, beq}
use Prim.Native.Nat.{ℕ, zero, suc, ◌+◌, ◌-◌, ◌*◌, ◌<◌}
use native.Mathlib.Nat.{zero-mul}
use native.Mathlib.Omega.{arith}
use lib.Dec.{ltb, leb-suc-suc}
use lib.IntN.{ℤ, pos, negsuc, neg_ℤ, ◌-ℤ◌, ◌*ℤ◌}
use lib.Signed.{lt_z}
use borrow.Author.Tests.{lt-ltb, le-ltb}
use Rattle.std.specs.declared.cmp.Ordering.{Ordering}
use Rattle.std.specs.Ordering.{is_lt}
use Rattle.std.specs.declared.cmp.Ordering.TheVariants.{Less, Equal, Greater}
use Rattle.numbers.specs.Signs.{is_neg, with_sign}
use Rattle.numbers.specs.Exacts.{order_of}
use Rattle.numbers.proofs.Flags.{never}
use Rattle.numbers.proofs.Exacts.{pos+neg}
use Rattle.numbers.proofs.Parts.{up, down, eq_parts, sum_parts, up_neg, down_neg}

sub_sign : (c : Bool) (x y : ℕ) → is_neg (cond c (negsuc x) (pos y)) ≡ c
sub_sign true x y = refl
sub_sign false x y = refl

-- a difference is below zero exactly where the first is below the second
pub below_iff : (x y : ℤ) → is_neg (x -ℤ y) ≡ lt_z x y
below_iff (pos a) (pos b) = ap is_neg (pos+neg a b) ∙ sub_sign (ltb a b) (b - suc a) (a - b)
below_iff (pos a) (negsuc b) = refl
below_iff (negsuc a) (pos zero) = sub_sign (ltb 0 (suc a)) (suc a - 1) (0 - suc a) ∙ lt-ltb 0 (suc a) (omega arith)
below_iff (negsuc a) (pos (suc b)) = refl
below_iff (negsuc a) (negsuc b) = sub_sign (ltb (suc b) (suc a)) (suc a - suc (suc b)) (suc b - suc a) ∙ leb-suc-suc (suc b) a

-- Less is what the sign says
order_sign : (z : ℤ) → is_lt (order_of z) ≡ is_neg z
order_sign (pos zero) = refl
order_sign (pos (suc n)) = refl
order_sign (negsuc n) = refl

-- Less is what the numbers' own order says
pub less_is : (x y : ℤ) → is_lt (order_of (x -ℤ y)) ≡ lt_z x y
less_is x y = order_sign (x -ℤ y) ∙ below_iff x y

-- ---- equal, and the other way round

zero_only : (z : ℤ) → order_of z ≡ Equal → z ≡ pos 0
zero_only (pos zero) e = refl
zero_only (pos (suc n)) e = cc
zero_only (negsuc n) e = cc

gap_parts : (x y : ℤ) → up (x -ℤ y) + (down x + up y) ≡ down (x -ℤ y) + (up x + down y)
gap_parts x y = omega (arith, sum_parts x (neg_ℤ y), up_neg y, down_neg y)

pub equal_only : (x y : ℤ) → order_of (x -ℤ y) ≡ Equal → x ≡ y
equal_only x y e =
    let z = zero_only (x -ℤ y) e in
    eq_parts x y (omega (arith, gap_parts x y, ap up z, ap down z))

pub same_equal : (x : ℤ) → order_of (x -ℤ x) ≡ Equal
same_equal x = ap order_of (eq_parts (x -ℤ x) (pos 0) (omega (arith, gap_parts x x)))

-- the order of the same two, exchanged
abbrev pub turned : Ordering → Ordering
turned Less = Greater
turned Equal = Equal
turned Greater = Less

pub order_minus : (z : ℤ) → order_of (neg_ℤ z) ≡ turned (order_of z)
order_minus (pos zero) = refl
order_minus (pos (suc n)) = refl
order_minus (negsuc n) = refl

pub exchanged : (x y : ℤ) → order_of (y -ℤ x) ≡ turned (order_of (x -ℤ y))
exchanged x y =
    ap order_of (eq_parts (y -ℤ x) (neg_ℤ (x -ℤ y)) (omega (arith, gap_parts x y, gap_parts y x, up_neg (x -ℤ y), down_neg (x -ℤ y))))
    ∙ order_minus (x -ℤ y)

-- ---- a factor above 0 keeps the order

order_grows : (n k : ℕ) → 0 < k → order_of (pos (suc n * k)) ≡ Greater
order_grows n k h = go (suc n * k) (omega arith)
  where
    go : (m : ℕ) → 0 < m → order_of (pos m) ≡ Greater
    go zero p = let z : ⊥ = omega arith in absurd z
    go (suc m) p = refl

pub order_times : (z : ℤ) (k : ℕ) → 0 < k → order_of (z *ℤ pos k) ≡ order_of z
order_times (pos zero) k h = rw (zero-mul k)
order_times (pos (suc n)) k h = order_grows n k h
order_times (negsuc n) k h = order_minus (pos (suc n * k)) ∙ ap turned (order_grows n k h)

-- ---- numbers with a sign each

-- two numbers below zero stand as their sizes do, exchanged
pub both_below : (p q : ℕ) → ltb q p ≡ lt_z (with_sign true p) (with_sign true q)
both_below zero zero = refl
both_below zero (suc q) = le-ltb (suc q) 0 (omega arith)
both_below (suc p) zero = lt-ltb 0 (suc p) (omega arith)
both_below (suc p) (suc q) = leb-suc-suc (suc q) p

-- and of two with unlike signs the one below zero is below
pub signs_apart : (x y : ℤ) → beq (is_neg x) (is_neg y) ≡ false → is_neg x ≡ lt_z x y
signs_apart (pos a) (pos b) e = never (sym e)
signs_apart (pos a) (negsuc b) e = refl
signs_apart (negsuc a) (pos b) e = refl
signs_apart (negsuc a) (negsuc b) e = never (sym e)

-- ---- by two tests

module _ (x y : ℤ) where
  less_only : (o : Ordering) → is_lt o ≡ true → Less ≡ o
  less_only Less e = refl
  less_only Equal e = cc
  less_only Greater e = cc

  greater_only : (o : Ordering) → is_lt (turned o) ≡ true → Greater ≡ o
  greater_only Less e = cc
  greater_only Equal e = cc
  greater_only Greater e = refl

  equal_else : (o : Ordering) → is_lt o ≡ false → is_lt (turned o) ≡ false → Equal ≡ o
  equal_else Less e f = cc
  equal_else Equal e f = refl
  equal_else Greater e f = cc

  back : (t : Bool) → lt_z y x ≡ t → is_lt (turned (order_of (x -ℤ y))) ≡ t
  back t e = ap is_lt (sym (exchanged x y)) ∙ less_is y x ∙ e

  pub is_less_lem : lt_z x y ≡ true → Less ≡ order_of (x -ℤ y)
  is_less_lem e = less_only (order_of (x -ℤ y)) (less_is x y ∙ e)

  pub is_greater : lt_z y x ≡ true → Greater ≡ order_of (x -ℤ y)
  is_greater e = greater_only (order_of (x -ℤ y)) (back true e)

  pub is_equal : lt_z x y ≡ false → lt_z y x ≡ false → Equal ≡ order_of (x -ℤ y)
  is_equal e f = equal_else (order_of (x -ℤ y)) (less_is x y ∙ e) (back false f)
