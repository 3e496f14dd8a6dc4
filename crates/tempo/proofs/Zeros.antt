-- A beat that is a zero with a sign is worked out as zero: its difference from a zero is a zero, and adding a zero of either sign is adding nothing.
use mathlib.Core.Path.{◌≡◌, refl, sym, ◌∙◌}
use mathlib.Core.Bool.{Bool, true, false, not, ◌&&◌, ◌||◌, cond, beq, and-true, and_self}
use Prim.Native.Nat.{ℕ, suc, ◌+◌, ◌-◌, ◌*◌, ◌^◌, ◌≤◌, ◌<◌, zero-le}
use native.Mathlib.Nat.{mul-pos, zero-mul, zero-add, mul_comm, mul_assoc, mul_left_comm}
use native.Mathlib.Omega.{arith}
use lib.IntN.{ℤ}
use lib.Dec.{T, ltb, eqb, eqb→eq, ltb→lt}
use lib.Pow.{pow_pos}
use borrow.Author.Tests.{le-ltb}
use lib.Ieee.{Float, nan, inf, fin, Format, prec, low, emax, unlike, up, down, le, lt, eq, round, neg, sum, add, sub, mul, div}
use lib.Ieee.Fits.{up_pos, down_pos, and_l}
use lib.Ieee.Exact.{HasValue, round_exact}
use lib.Ieee.Positive.{positive}
use lib.Ieee.Scale.{finite, round_same}
use Rattle.numbers.proofs.Laws.{factor_zero}
use Rattle.rounding.specs.Floats.{float0, without_sign}
use Rattle.rounding.proofs.Laws.{Up, not_zero, le_trans_float}

-- a zero, of either sign
abbrev pub Zero : Float → Type 0
Zero nan = ⊥
Zero (inf s) = ⊥
Zero (fin s m e) = m ≡ 0

-- ---- operations on zeros

zero_value : (x : Float) (s : Bool) (c : ℕ) → 0 < c → HasValue x s 0 c → Zero x
zero_value nan s c C h = h
zero_value (inf t) s c C h = h
zero_value (fin t m e) s c C h = factor_zero m (up e) (up_pos e) (factor_zero (m * up e) c C (h.1 ∙ zero-mul (down e)))

round_zero : (f : Format) (s : Bool) (a c : ℕ) → a ≡ 0 → 0 < c → Zero (round f s a c)
round_zero f s a c is C =
    rw is (zero_value (round f s 0 c) s c C (round_exact f s 0 c 0 0 C (pow_pos (prec f)) (pow_pos (low f + suc (emax f))) (zero-mul (2 ^ low f) ∙ sym (zero-mul c))))

sum_zero : (f : Format) (s t : Bool) (a b c : ℕ) → a ≡ 0 → b ≡ 0 → 0 < c → Zero (sum f s a t b c)
unfolding sum
sum_zero f s t a b c p q C = rw (p, q) (go s t)
  where
    go : (s t : Bool) → Zero (cond (beq s t) (round f s (0 + 0) c) (cond (ltb 0 0) (round f t (0 - 0) c) (round f (s && ltb 0 0) (0 - 0) c)))
    go true true = round_zero f true 0 c refl C
    go true false = round_zero f false 0 c refl C
    go false true = round_zero f false 0 c refl C
    go false false = round_zero f false 0 c refl C

times_zero : (m u v : ℕ) → m ≡ 0 → m * u * v ≡ 0
times_zero m u v e = rw (e, zero-mul, zero-mul)

pub sub_zero : (f : Format) (x y : Float) → Zero x → Zero y → Zero (sub f x y)
unfolding sub add neg
sub_zero f nan y h k = absurd h
sub_zero f (inf s) y h k = absurd h
sub_zero f (fin s m e) nan h k = absurd k
sub_zero f (fin s m e) (inf t) h k = absurd k
sub_zero f (fin s m e) (fin t n d) h k =
    sum_zero f s (not t) (m * up e * down d) (n * up d * down e) (down e * down d) (times_zero m (up e) (down d) h) (times_zero n (up d) (down e) k) (mul-pos (down_pos e) (down_pos d))

pub mul_zero : (f : Format) (x y : Float) → Zero x → T (positive y) → Zero (mul f x y)
unfolding mul
mul_zero f nan y h p = absurd h
mul_zero f (inf s) y h p = absurd h
mul_zero f (fin s m e) nan h p = absurd p
mul_zero f (fin s m e) (inf t) h p = absurd p
mul_zero f (fin s m e) (fin t n d) h p = round_zero f (unlike s t) (m * up e * (n * up d)) (down e * down d) (times_zero m (up e) (n * up d) h) (mul-pos (down_pos e) (down_pos d))

pub div_zero : (f : Format) (x y : Float) → Zero x → T (positive y) → Zero (div f x y)
unfolding div
div_zero f nan y h p = absurd h
div_zero f (inf s) y h p = absurd h
div_zero f (fin s m e) nan h p = absurd p
div_zero f (fin s m e) (inf t) h p = absurd p
div_zero f (fin s m e) (fin true n d) h p = absurd p
div_zero f (fin s m e) (fin false n d) h p =
    rw (not_zero n p)
    (round_zero f (unlike s false) (m * up e * down d) (n * up d * down e) (times_zero m (up e) (down d) h) (mul-pos (mul-pos (ltb→lt 0 n p) (up_pos d)) (down_pos e)))

-- what is not negative, with a zero added, is itself, rounded
nothing_more : (f : Format) (m : ℕ) (e : ℤ) (y : Float) → Zero y → add f (fin false m e) y ≡ round f false (m * up e) (down e)
unfolding add sum
nothing_more f m e nan h = absurd h
nothing_more f m e (inf t) h = absurd h
nothing_more f m e (fin t n d) h = rw (times_zero n (up d) (down e) h) (go t)
  where
    same : (a : ℕ) → a ≡ m * up e * down d → round f false a (down e * down d) ≡ round f false (m * up e) (down e)
    same a is = round_same f false a (down e * down d) (m * up e) (down e) (mul-pos (down_pos e) (down_pos d)) (down_pos e) (rw is (simp (mul_assoc, mul_comm, mul_left_comm)))

    go : (t : Bool) → cond (beq false t) (round f false (m * up e * down d + 0) (down e * down d)) (cond (ltb (m * up e * down d) 0) (round f t (0 - m * up e * down d) (down e * down d)) (round f (false && ltb 0 (m * up e * down d)) (m * up e * down d - 0) (down e * down d))) ≡ round f false (m * up e) (down e)
    go true = rw (le-ltb (m * up e * down d) 0 (omega arith)) (same (m * up e * down d - 0) (omega arith))
    go false = same (m * up e * down d + 0) (omega arith)

pub add_zero : (f : Format) (x y z : Float) → Up x x → Zero y → Zero z → add f x y ≡ add f x z
unfolding add
add_zero f nan y z u h k = absurd u
add_zero f (inf true) y z u h k = absurd u
add_zero f (inf false) nan z u h k = absurd h
add_zero f (inf false) (inf t) z u h k = absurd h
add_zero f (inf false) (fin t n d) nan u h k = absurd k
add_zero f (inf false) (fin t n d) (inf r) u h k = absurd k
add_zero f (inf false) (fin t n d) (fin r o g) u h k = refl
add_zero f (fin true m e) y z u h k = absurd u
add_zero f (fin false m e) y z u h k = nothing_more f m e y h ∙ sym (nothing_more f m e z k)

-- ---- beats from 0 on

-- it is a number, and not below 0
pub record FromZero (beat : Float) : Type 0 where
  pub number : T (finite beat)
  pub reached : T (le float0 beat)

-- one that has a sign is a zero
pub signed_zero : (m : ℕ) (e : ℤ) → T (le float0 (fin true m e)) → m ≡ 0
unfolding le lt eq
signed_zero m e h = factor_zero m (up e) (up_pos e) (go (m * up e) (down e) (eqb→eq (0 * down e) (m * up e * 1) (and_l (eqb (0 * down e) (m * up e * 1)) (eqb (0 * down e) 0) h)))
  where
    go : (a c : ℕ) → 0 * c ≡ a * 1 → a ≡ 0
    go a c e = omega arith

-- and what is at most a zero is one
pub zero_below : (m : ℕ) (e : ℤ) (n : ℕ) (d : ℤ) → Up (fin false m e) (fin false n d) → n ≡ 0 → m ≡ 0
zero_below m e n d h is =
    let l : m * up e * down d ≤ n * up d * down e = h in
    let z : n * up d * down e ≡ 0 = times_zero n (up d) (down e) is in
    factor_zero m (up e) (up_pos e) (factor_zero (m * up e) (down d) (down_pos d) (omega arith))

-- the order does not look at that sign
at_zero : (a : ℕ) → (ltb a 0 || (eqb a 0 && true)) ≡ (eqb a 0 && eqb a 0)
at_zero a = rw (le-ltb a 0 zero-le) (and-true (eqb a 0) ∙ sym (and_self (eqb a 0)))

pub le_plain : (x y : Float) → FromZero x → FromZero y → le (without_sign x) (without_sign y) ≡ le x y
unfolding le lt eq without_sign
le_plain nan y p q = absurd p.number
le_plain (inf s) y p q = absurd p.number
le_plain (fin s m e) nan p q = absurd q.number
le_plain (fin s m e) (inf t) p q = absurd q.number
le_plain (fin false m e) (fin false n d) p q = refl
le_plain (fin false m e) (fin true n d) p q = rw (times_zero n (up d) (down e) (signed_zero n d q.reached)) (at_zero (m * up e * down d))
le_plain (fin true m e) (fin false n d) p q = rw (times_zero m (up e) (down d) (signed_zero m e p.reached), zero-add (n * up d * down e))
le_plain (fin true m e) (fin true n d) p q = rw (times_zero m (up e) (down d) (signed_zero m e p.reached), times_zero n (up d) (down e) (signed_zero n d q.reached))

-- what is not below a beat from 0 on is from 0 on
pub from_zero_on : (x y : Float) → FromZero x → T (finite y) → T (le x y) → FromZero y
from_zero_on x y p q h = record { number = q; reached = le_trans_float float0 x y p.reached h }
