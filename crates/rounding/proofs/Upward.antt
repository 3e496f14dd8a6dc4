-- The order of the floats that are not below zero, an infinity included, which the rounded operations keep: each works out a fraction of two numbers, and
-- of two fractions the larger rounds to the larger. `Up x y` says that neither is negative or a NaN and that x is at most y.
use Rattle.std.proofs.Common.{◌≡◌, ℕ, zero, suc, ◌+◌, ◌-◌, ◌*◌, ◌^◌, ◌<◌, ◌≤◌, Bool, true, false, cond, ◌&&◌, ◌||◌, T, eqb, ltb, ℤ, pos, negsuc, sym, ap, ◌∙◌, subst, true≢false, zero-le, le_trans, le_of_eq, le_refl, lt_of_lt_of_le, le-add_right, lt_of_le_of_lt, add-le-add, mul-le-mul_right, mul_assoc, mul_comm, add-mul, lt_of_mul-lt-mul_right, mul-lt-mul_of_pos_right, mul-pos, ne_of_gt, zero-mul, mul-one, sub-add_cancel, mul_right_comm, not-le_of_lt, mul_left_comm, arith, ltb→lt, pow_pos, pow-add, le-ltb, lt-ltb, ne_eqb}
use native.Mathlib.Nat.{mul-sub, mul-mul-mul_comm}
use native.Mathlib.Omega.{by_contra}
use lib.Pow.{pow-lt}
use lib.Ieee.{Float, nan, inf, fin, Format, prec, emax, low, up, down, fits, le, lt, odd, units, round, add, sub, mul, div, sum}
use lib.Ieee.Fits.{up_pos, down_pos, round_is}
use lib.Ieee.Exact.{HasValue, odd_sign, round_exact}
use lib.Ieee.Order.{round_mono}
use lib.Ieee.Positive.{positive, through}
use lib.Ieee.Scale.{finite}
use Rattle.rounding.proofs.Flooring.{few, coarse, under_top}
use Rattle.rounding.proofs.Order.{same, at_most}

abbrev pub Up : Float → Float → Type 0
Up nan y = ⊥
Up (inf true) y = ⊥
Up (inf false) nan = ⊥
Up (inf false) (inf true) = ⊥
Up (inf false) (inf false) = Unit
Up (inf false) (fin t n d) = ⊥
Up (fin true m e) y = ⊥
Up (fin false m e) nan = ⊥
Up (fin false m e) (inf true) = ⊥
Up (fin false m e) (inf false) = Unit
Up (fin false m e) (fin true n d) = ⊥
Up (fin false m e) (fin false n d) = m * up e * down d ≤ n * up d * down e

-- ---- the cases: a pair in this order is of three kinds, one such float of two, a finite one above zero of one

by_pair : (P : Float → Float → Type 0) → P (inf false) (inf false) → ((m : ℕ) (e : ℤ) → P (fin false m e) (inf false))
    → ((m : ℕ) (e : ℤ) (n : ℕ) (d : ℤ) → m * up e * down d ≤ n * up d * down e → P (fin false m e) (fin false n d)) → (x y : Float) → Up x y → P x y
by_pair P i j k nan y h = absurd h
by_pair P i j k (inf true) y h = absurd h
by_pair P i j k (inf false) nan h = absurd h
by_pair P i j k (inf false) (inf true) h = absurd h
by_pair P i j k (inf false) (inf false) h = i
by_pair P i j k (inf false) (fin t n d) h = absurd h
by_pair P i j k (fin true m e) y h = absurd h
by_pair P i j k (fin false m e) nan h = absurd h
by_pair P i j k (fin false m e) (inf true) h = absurd h
by_pair P i j k (fin false m e) (inf false) h = j m e
by_pair P i j k (fin false m e) (fin true n d) h = absurd h
by_pair P i j k (fin false m e) (fin false n d) h = k m e n d h

by_one : (P : Float → Type 0) → P (inf false) → ((m : ℕ) (e : ℤ) → P (fin false m e)) → (x : Float) → Up x x → P x
by_one P i j nan h = absurd h
by_one P i j (inf true) h = absurd h
by_one P i j (inf false) h = i
by_one P i j (fin true m e) h = absurd h
by_one P i j (fin false m e) h = j m e

by_two : (P : Float → Float → Type 0) → P (inf false) (inf false) → ((n : ℕ) (d : ℤ) → P (inf false) (fin false n d)) → ((m : ℕ) (e : ℤ) → P (fin false m e) (inf false))
    → ((m : ℕ) (e : ℤ) (n : ℕ) (d : ℤ) → P (fin false m e) (fin false n d)) → (x y : Float) → Up x x → Up y y → P x y
by_two P i j k l x y p q = by_one (λ x. P x y) (by_one (λ y. P (inf false) y) i j y q) (λ m e. by_one (λ y. P (fin false m e) y) (k m e) (l m e) y q) x p

by_positive : (P : Float → Type 0) → ((o : ℕ) (g : ℤ) → T (ltb 0 o) → P (fin false o g)) → (c : Float) → T (positive c) → P c
by_positive P k nan p = absurd p
by_positive P k (inf t) p = absurd p
by_positive P k (fin true o g) p = absurd p
by_positive P k (fin false o g) p = k o g p

-- ---- an order

up_left : (x y : Float) → Up x y → Up x x
up_left = by_pair (λ x y. Up x x) tt (λ m e. le_refl (m * up e * down e)) (λ m e n d h. le_refl (m * up e * down e))

pub up_right : (x y : Float) → Up x y → Up y y
up_right = by_pair (λ x y. Up y y) tt (λ m e. tt) (λ m e n d h. le_refl (n * up d * down d))

pub up_trans : (x y z : Float) → Up x y → Up y z → Up x z
up_trans x y z h k =
    by_pair (λ x y. Up y z → Up x z) (λ k. k)
    (λ m e k. by_one (λ z. Up (inf false) z → Up (fin false m e) z) (λ k. tt) (λ o g k. absurd k) z (up_right (inf false) z k) k)
    (λ m e n d h k. by_one (λ z. Up (fin false n d) z → Up (fin false m e) z) (λ k. tt)
    (λ o g k. through (m * up e) (n * up d) (o * up g) (down e) (down d) (down g) (down_pos d) h k) z (up_right (fin false n d) z k) k)
    x y h k

-- ---- against the test `<=`

pub le→up : (x y : Float) → Up x x → Up y y → T (le x y) → Up x y
unfolding le lt
le→up x y p q = by_two (λ x y. T (le x y) → Up x y) (λ h. tt) (λ n d h. absurd h) (λ m e h. tt) (λ m e n d h. same (m * up e * down d) (n * up d * down e) h) x y p q

-- where the test fails, the order is the other way
not_le : (a b : ℕ) → (ltb a b || (eqb a b && true)) ≡ false → b ≤ a
not_le a b e = by_contra b a (λ h. true≢false (rw (lt-ltb a b h) at e))

pub nle→up : (x y : Float) → Up x x → Up y y → le x y ≡ false → Up y x
unfolding le lt
nle→up x y p q =
    by_two (λ x y. le x y ≡ false → Up y x) (λ h. tt) (λ n d h. tt) (λ m e h. absurd (true≢false h))
    (λ m e n d h. not_le (m * up e * down d) (n * up d * down e) h) x y p q

pub up→le : (x y : Float) → Up x y → T (le x y)
unfolding le lt
up→le = by_pair (λ x y. T (le x y)) tt (λ m e. tt) (λ m e n d h. at_most (m * up e * down d) (n * up d * down e) h)

-- ---- rounding keeps it

of_value : (x : Float) (a c : ℕ) → HasValue x false a c → Up x x
of_value nan a c h = absurd h
of_value (inf t) a c h = absurd h
of_value (fin true m e) a c h = absurd (true≢false h.0)
of_value (fin false m e) a c h = le_refl (m * up e * down e)

units_up : (f : Format) (q k : ℕ) → Up (units f false q k) (units f false q k)
unfolding units
units_up f q k = go (ltb (q * 2 ^ k) (2 ^ (low f + suc (emax f))))
  where
    go : (b : Bool) → (let x = cond b (odd (suc (prec f)) false q k (low f)) (inf false) in Up x x)
    go true = of_value (odd (suc (prec f)) false q k (low f)) (q * 2 ^ k) (2 ^ low f) (odd_sign (suc (prec f)) false q k (low f))
    go false = tt

pub round_own : (f : Format) (a b : ℕ) → Up (round f false a b) (round f false a b)
round_own f a b = subst (λ (x : Float). Up x x) (sym (round_is f false a b)) (units_up f _ _)

pub round_up : (f : Format) (a b c d : ℕ) → 0 < b → 0 < d → a * d ≤ c * b → Up (round f false a b) (round f false c d)
round_up f a b c d B D h = le→up (round f false a b) (round f false c d) (round_own f a b) (round_own f c d) (round_mono f a b c d B D h)

-- ---- the operations

below_inf : (x : Float) → Up x x → Up x (inf false)
below_inf = by_one (λ x. Up x (inf false)) tt (λ m e. tt)

round_inf : (f : Format) (a b : ℕ) → Up (round f false a b) (inf false)
round_inf f a b = below_inf (round f false a b) (round_own f a b)

scaled : (a b c d n e : ℕ) → a * d ≤ c * b → a * n * (d * e) ≤ c * n * (b * e)
scaled a b c d n e h = le_trans (le_of_eq (mul-mul-mul_comm a n d e)) (le_trans (mul-le-mul_right (n * e) h) (le_of_eq (mul-mul-mul_comm c b n e)))

pub not_zero : (n : ℕ) → T (ltb 0 n) → eqb n 0 ≡ false
not_zero n t = ne_eqb n 0 (ne_of_gt (ltb→lt 0 n t))

-- a product with a factor that is finite and above zero
pub mul_up : (f : Format) (x y c : Float) → T (positive c) → Up x y → Up (mul f x c) (mul f y c)
unfolding mul
mul_up f x y c p h =
    by_positive (λ c. Up (mul f x c) (mul f y c))
    (λ o g p. by_pair (λ x y. Up (mul f x (fin false o g)) (mul f y (fin false o g))) (rw (not_zero o p) tt)
    (λ m e. rw (not_zero o p) (round_inf f (m * up e * (o * up g)) (down e * down g)))
    (λ m e n d h. round_up f (m * up e * (o * up g)) (down e * down g) (n * up d * (o * up g)) (down d * down g) (mul-pos (down_pos e) (down_pos g)) (mul-pos (down_pos d) (down_pos g))
    (scaled (m * up e) (down e) (n * up d) (down d) (o * up g) (down g) h)) x y h) c p

-- a quotient by a divisor that is finite and above zero
pub div_up : (f : Format) (x y c : Float) → T (positive c) → Up x y → Up (div f x c) (div f y c)
unfolding div
div_up f x y c p h =
    by_positive (λ c. Up (div f x c) (div f y c))
    (λ o g p. by_pair (λ x y. Up (div f x (fin false o g)) (div f y (fin false o g))) tt
    (λ m e. rw (not_zero o p) (round_inf f (m * up e * down g) (o * up g * down e)))
    (λ m e n d h. rw (not_zero o p)
    (round_up f (m * up e * down g) (o * up g * down e) (n * up d * down g) (o * up g * down d)
    (mul-pos (mul-pos (ltb→lt 0 o p) (up_pos g)) (down_pos e)) (mul-pos (mul-pos (ltb→lt 0 o p) (up_pos g)) (down_pos d))
    (le_trans (le_of_eq (ap (λ (z : ℕ). m * up e * down g * z) (mul_comm (o * up g) (down d))))
    (le_trans (scaled (m * up e) (down e) (n * up d) (down d) (down g) (o * up g) h) (le_of_eq (ap (λ (z : ℕ). n * up d * down g * z) (mul_comm (down e) (o * up g))))))))
    x y h) c p

-- a sum
pub add_up : (f : Format) (x x' y y' : Float) → Up x x' → Up y y' → Up (add f x y) (add f x' y')
unfolding add sum
add_up f x x' y y' h k =
    by_pair (λ x x'. Up (add f x y) (add f x' y'))
    (by_pair (λ y y'. Up (add f (inf false) y) (add f (inf false) y')) tt (λ a b. tt) (λ a b o g k. tt) y y' k)
    (λ m e. by_pair (λ y y'. Up (add f (fin false m e) y) (add f (inf false) y')) tt (λ a b. round_inf f _ _) (λ a b o g k. round_inf f _ _) y y' k)
    (λ m e n d h. by_pair (λ y y'. Up (add f (fin false m e) y) (add f (fin false n d) y')) tt (λ a b. round_inf f _ _)
    (λ a b o g k. round_up f (m * up e * down b + a * up b * down e) (down e * down b) (n * up d * down g + o * up g * down d) (down d * down g)
    (mul-pos (down_pos e) (down_pos b)) (mul-pos (down_pos d) (down_pos g)) (sums (m * up e) (down e) (n * up d) (down d) (a * up b) (down b) (o * up g) (down g) h k))
    y y' k) x x' h
  where
    -- x / p + y / q ≤ x' / p' + y' / q'
    sums : (x p x' p' y q y' q' : ℕ) → x * p' ≤ x' * p → y * q' ≤ y' * q → (x * q + y * p) * (p' * q') ≤ (x' * q' + y' * p') * (p * q)
    sums x p x' p' y q y' q' h k =
        let a : x * q * (p' * q') ≤ x' * q' * (p * q) = le_trans (le_of_eq (mul-mul-mul_comm x q p' q')) (le_trans (mul-le-mul_right (q * q') h) (le_of_eq (ap (λ (z : ℕ). x' * p * z) (mul_comm q q') ∙ mul-mul-mul_comm x' p q' q))) in
        let b : y * p * (p' * q') ≤ y' * p' * (p * q) = le_trans (le_of_eq (ap (λ (z : ℕ). y * p * z) (mul_comm p' q') ∙ mul-mul-mul_comm y p q' p')) (le_trans (mul-le-mul_right (p * p') k) (le_of_eq (ap (λ (z : ℕ). y' * q * z) (mul_comm p p') ∙ mul-mul-mul_comm y' q p' p ∙ ap (λ (z : ℕ). y' * p' * z) (mul_comm q p)))) in
        le_trans (le_of_eq (add-mul (x * q) (y * p) (p' * q'))) (le_trans (add-le-add a b) (le_of_eq (sym (add-mul (x' * q') (y' * p') (p * q)))))

-- ---- a value that the format holds is at most itself with something added

module _ (f : Format) (m : ℕ) (e : ℤ) (F : T (fits f (fin false (suc m) e))) where
  -- its exponent, in units of the smallest value
  own : (j : ℕ) → suc m * up e * 2 ^ low f ≡ suc m * 2 ^ j * down e → HasValue (round f false (suc m * up e) (down e)) false (suc m * up e) (down e)
  own j h =
      round_exact f false (suc m * up e) (down e) (suc m) j (down_pos e) (few f false m e F)
      (lt_of_mul-lt-mul_right (down e)
      (lt_of_le_of_lt (le_of_eq (sym h))
      (lt_of_lt_of_le (mul-lt-mul_of_pos_right (under_top f false m e F) (pow_pos (low f))) (le_of_eq (mul_right_comm (2 ^ suc (emax f)) (down e) (2 ^ low f) ∙ ap (λ (z : ℕ). z * down e) (mul_comm (2 ^ suc (emax f)) (2 ^ low f) ∙ sym (pow-add 2 (low f) (suc (emax f))))))))
      )
      h

own_exact : (f : Format) (m : ℕ) (e : ℤ) → T (fits f (fin false (suc m) e)) → HasValue (round f false (suc m * up e) (down e)) false (suc m * up e) (down e)
own_exact f m (pos k) F = own f m (pos k) F (k + low f) (mul_assoc (suc m) (2 ^ k) (2 ^ low f) ∙ ap (λ (z : ℕ). suc m * z) (sym (pow-add 2 k (low f))) ∙ sym (mul-one (suc m * 2 ^ (k + low f))))
own_exact f m (negsuc k) F =
    own f m (negsuc k) F (low f - suc k)
    (ap (λ (z : ℕ). z * 2 ^ low f) (mul-one (suc m))
    ∙ ap (λ (z : ℕ). suc m * 2 ^ z) (sym (sub-add_cancel (by_contra (suc k) (low f) (λ h. not-le_of_lt (pow-lt h) (coarse f false m (negsuc k) F)))))
    ∙ ap (λ (z : ℕ). suc m * z) (pow-add 2 (low f - suc k) (suc k))
    ∙ sym (mul_assoc (suc m) (2 ^ (low f - suc k)) (2 ^ suc k)))

up_value : (m : ℕ) (e : ℤ) (y : Float) → HasValue y false (m * up e) (down e) → Up (fin false m e) y
up_value m e nan h = absurd h
up_value m e (inf t) h = absurd h
up_value m e (fin true n d) h = absurd (true≢false h.0)
up_value m e (fin false n d) h = le_of_eq (sym h.1)

pub from_zero : (e : ℤ) (y : Float) → Up y y → Up (fin false zero e) y
from_zero e = by_one (λ y. Up (fin false zero e) y) tt (λ n d. rw (zero-mul, zero-mul) zero-le)

round_self : (f : Format) (m : ℕ) (e : ℤ) → T (fits f (fin false m e)) → Up (fin false m e) (round f false (m * up e) (down e))
round_self f zero e F = from_zero e (round f false (zero * up e) (down e)) (round_own f (zero * up e) (down e))
round_self f (suc m) e F = up_value (suc m) e (round f false (suc m * up e) (down e)) (own_exact f m e F)

pub add_more : (f : Format) (x y : Float) → T (fits f x) → Up x x → Up y y → Up x (add f x y)
unfolding add sum
add_more f x y F h k =
    by_two (λ x y. T (fits f x) → Up x (add f x y)) (λ F. tt) (λ n d F. tt) (λ m e F. tt)
    (λ m e n d F. up_trans (fin false m e) (round f false (m * up e) (down e)) (round f false (m * up e * down d + n * up d * down e) (down e * down d)) (round_self f m e F)
    (round_up f (m * up e) (down e) (m * up e * down d + n * up d * down e) (down e * down d) (down_pos e) (mul-pos (down_pos e) (down_pos d))
    (le_trans (le_of_eq (ap (λ (z : ℕ). m * up e * z) (mul_comm (down e) (down d)) ∙ sym (mul_assoc (m * up e) (down d) (down e))))
    (mul-le-mul_right (down e) (le-add_right (m * up e * down d) (n * up d * down e))))))
    x y h k F

-- ---- a difference that is not below zero grows with what it is taken from

sub_is : (f : Format) (m : ℕ) (e : ℤ) (n : ℕ) (d : ℤ) → Up (fin false n d) (fin false m e) → sub f (fin false m e) (fin false n d) ≡ round f false (m * up e * down d - n * up d * down e) (down e * down d)
unfolding sub sum
sub_is f m e n d h = rw (le-ltb (m * up e * down d) (n * up d * down e) h)

-- X / dx - Y / dy ≤ Z / dz - Y / dy for X / dx ≤ Z / dz
grow : (X dx Y dy Z dz : ℕ) → X * dz ≤ Z * dx → (X * dy - Y * dx) * (dz * dy) ≤ (Z * dy - Y * dz) * (dx * dy)
grow X dx Y dy Z dz h =
    let a : dz * dy * (X * dy) ≤ dx * dy * (Z * dy) = simp (mul_assoc, mul_comm, mul_left_comm) (simp (mul_assoc, mul_comm, mul_left_comm) at (mul-le-mul_right (dy * dy) h)) in
    let b : dx * dy * (Y * dz) ≡ dz * dy * (Y * dx) = simp (mul_assoc, mul_comm, mul_left_comm) in
    le_trans (le_of_eq (mul_comm (X * dy - Y * dx) (dz * dy) ∙ mul-sub (dz * dy) (X * dy) (Y * dx)))
    (le_trans (less (dz * dy * (X * dy)) (dz * dy * (Y * dx)) (dx * dy * (Z * dy)) (dx * dy * (Y * dz)) a b)
    (le_of_eq (sym (mul_comm (Z * dy - Y * dz) (dx * dy) ∙ mul-sub (dx * dy) (Z * dy) (Y * dz)))))
  where
    less : (p q r s : ℕ) → p ≤ r → s ≡ q → p - q ≤ r - s
    less p q r s e h = omega arith

pub sub_up : (f : Format) (x y z : Float) → T (finite z) → Up y x → Up x z → Up (sub f x y) (sub f z y)
sub_up f x y z F h k =
    by_pair (λ x z. T (finite z) → Up y x → Up (sub f x y) (sub f z y)) (λ F h. absurd F) (λ m e F h. absurd F)
    (λ m e n d k F h. by_one (λ y. Up y (fin false m e) → Up (sub f (fin false m e) y) (sub f (fin false n d) y)) (λ h. absurd h)
    (λ o g h. subst (λ (z : Float). Up z (sub f (fin false n d) (fin false o g))) (sym (sub_is f m e o g h))
    (subst (λ (z : Float). Up (round f false (m * up e * down g - o * up g * down e) (down e * down g)) z) (sym (sub_is f n d o g (up_trans (fin false o g) (fin false m e) (fin false n d) h k)))
    (round_up f (m * up e * down g - o * up g * down e) (down e * down g) (n * up d * down g - o * up g * down d) (down d * down g) (mul-pos (down_pos e) (down_pos g)) (mul-pos (down_pos d) (down_pos g))
    (grow (m * up e) (down e) (o * up g) (down g) (n * up d) (down d) k)))) y (up_left y (fin false m e) h) h) x z k F h
