-- The test `<=` on floats is transitive, signs, infinities and NaNs included.
use Rattle.std.proofs.Common.{◌≡◌, ℕ, ◌+◌, ◌*◌, ◌<◌, ◌≤◌, true, false, ◌&&◌, ◌||◌, T, eqb, ltb, ◌↔◌, sym, ◌∙◌, inl, inr, zero-le, le_trans, le_of_eq, le_of_lt, eq-zero-or-pos, eq-or-lt_of_le, zero-mul, arith, eqb→eq, ltb→lt, lt-ltb, eq-eqb}
use mathlib.Core.Bool.{or-true}
use lib.Arith.{le-zero}
use lib.Ieee.{Float, nan, inf, fin, up, down, le, lt}
use lib.Ieee.Fits.{down_pos, and_l, and_r}
use lib.Ieee.Positive.{through}
use mir.Facts.{or_yes}
use Rattle.numbers.proofs.Laws.{factor_zero}

-- x is at most y, as numbers
abbrev Le : Float → Float → Type 0
Le nan y = ⊥
Le (inf s) nan = ⊥
Le (inf true) (inf t) = Unit
Le (inf true) (fin t n d) = Unit
Le (inf false) (inf true) = ⊥
Le (inf false) (inf false) = Unit
Le (inf false) (fin t n d) = ⊥
Le (fin s m e) nan = ⊥
Le (fin s m e) (inf true) = ⊥
Le (fin s m e) (inf false) = Unit
Le (fin false m e) (fin false n d) = m * up e * down d ≤ n * up d * down e
Le (fin false m e) (fin true n d) = (m * up e * down d ≤ 0) × (n * up d * down e ≤ 0)
Le (fin true m e) (fin false n d) = Unit
Le (fin true m e) (fin true n d) = n * up d * down e ≤ m * up e * down d

-- the test on two naturals
pub same : (a b : ℕ) → T (ltb a b || (eqb a b && true)) → a ≤ b
same a b t = elim (or_yes (ltb a b) (eqb a b && true) t) [ inl l ↦ le_of_lt (ltb→lt a b l) | inr e ↦ le_of_eq (eqb→eq a b (and_l (eqb a b) true e)) ]

turned : (a b : ℕ) → T (ltb b a || (eqb a b && true)) → b ≤ a
turned a b t = elim (or_yes (ltb b a) (eqb a b && true) t) [ inl l ↦ le_of_lt (ltb→lt b a l) | inr e ↦ le_of_eq (sym (eqb→eq a b (and_l (eqb a b) true e))) ]

nought : (a b : ℕ) → T (eqb a b && (false || eqb a 0)) → (a ≤ 0) × (b ≤ 0)
nought a b t =
    let z : a ≡ 0 = eqb→eq a 0 (and_r (eqb a b) (eqb a 0) t) in
    (le_of_eq z, le_of_eq (sym (eqb→eq a b (and_l (eqb a b) (eqb a 0) t)) ∙ z))

pub at_most : (a b : ℕ) → a ≤ b → T (ltb a b || (eqb a b && true))
at_most a b h = elim (eq-or-lt_of_le h) [ inl e ↦ rw (eq-eqb a b e, or-true) tt | inr l ↦ rw (lt-ltb a b l) tt ]

of_turned : (a b : ℕ) → b ≤ a → T (ltb b a || (eqb a b && true))
of_turned a b h = elim (eq-or-lt_of_le h) [ inl e ↦ rw (eq-eqb a b (sym e), or-true) tt | inr l ↦ rw (lt-ltb b a l) tt ]

of_nought : (a b : ℕ) → (a ≤ 0) × (b ≤ 0) → T (eqb a b && (false || eqb a 0))
of_nought a b h = rw (eq-eqb a b (omega arith), eq-eqb a 0 (omega arith)) tt

always : (a b : ℕ) → T (ltb 0 (a + b) || (eqb a b && (false || eqb a 0)))
always a b = elim (eq-zero-or-pos (a + b)) [ inl z ↦ rw (eq-eqb a b (omega arith), eq-eqb a 0 (omega arith), or-true) tt | inr p ↦ rw (lt-ltb 0 (a + b) p) tt ]

as_is : {A : Type 0} → A ↔ A
as_is = (λ h. h, λ h. h)

is_le : (x y : Float) → T (le x y) ↔ Le x y
unfolding le lt
is_le nan y = as_is
is_le (inf s) nan = as_is
is_le (inf true) (inf true) = as_is
is_le (inf true) (inf false) = as_is
is_le (inf true) (fin t n d) = as_is
is_le (inf false) (inf true) = as_is
is_le (inf false) (inf false) = as_is
is_le (inf false) (fin t n d) = as_is
is_le (fin s m e) nan = as_is
is_le (fin s m e) (inf true) = as_is
is_le (fin s m e) (inf false) = as_is
is_le (fin false m e) (fin false n d) = (same (m * up e * down d) (n * up d * down e), at_most (m * up e * down d) (n * up d * down e))
is_le (fin false m e) (fin true n d) = (nought (m * up e * down d) (n * up d * down e), of_nought (m * up e * down d) (n * up d * down e))
is_le (fin true m e) (fin false n d) = (λ h. tt, λ h. always (m * up e * down d) (n * up d * down e))
is_le (fin true m e) (fin true n d) = (turned (m * up e * down d) (n * up d * down e), of_turned (m * up e * down d) (n * up d * down e))

-- a product that is 0 with a factor above 0
pub lost : (a b c : ℕ) → 0 < b → a * b ≤ 0 → a * c ≤ 0
lost a b c p h = le_of_eq (rw (factor_zero a b p (le-zero h)) (zero-mul c))

trans : (x y z : Float) → Le x y → Le y z → Le x z
trans nan y z h k = absurd h
trans (inf s) nan z h k = absurd h
trans (inf true) (inf true) z h k = k
trans (inf true) (inf false) nan h k = k
trans (inf true) (inf false) (inf t) h k = tt
trans (inf true) (inf false) (fin t n d) h k = tt
trans (inf true) (fin t n d) nan h k = k
trans (inf true) (fin t n d) (inf u) h k = tt
trans (inf true) (fin t n d) (fin u o g) h k = tt
trans (inf false) (inf true) z h k = absurd h
trans (inf false) (inf false) z h k = k
trans (inf false) (fin t n d) z h k = absurd h
trans (fin s m e) nan z h k = absurd h
trans (fin s m e) (inf true) z h k = absurd h
trans (fin s m e) (inf false) nan h k = k
trans (fin s m e) (inf false) (inf true) h k = k
trans (fin s m e) (inf false) (inf false) h k = tt
trans (fin s m e) (inf false) (fin u o g) h k = absurd k
trans (fin s m e) (fin t n d) nan h k = k
trans (fin s m e) (fin t n d) (inf true) h k = k
trans (fin s m e) (fin t n d) (inf false) h k = tt
trans (fin false m e) (fin false n d) (fin false o g) h k = through (m * up e) (n * up d) (o * up g) (down e) (down d) (down g) (down_pos d) h k
trans (fin false m e) (fin false n d) (fin true o g) h k =
    (lost (m * up e) (down d) (down g) (down_pos d) (le_trans h (lost (n * up d) (down g) (down e) (down_pos g) k.0)), lost (o * up g) (down d) (down e) (down_pos d) k.1)
trans (fin false m e) (fin true n d) (fin false o g) h k = le_trans (lost (m * up e) (down d) (down g) (down_pos d) h.0) zero-le
trans (fin false m e) (fin true n d) (fin true o g) h k =
    (lost (m * up e) (down d) (down g) (down_pos d) h.0, lost (o * up g) (down d) (down e) (down_pos d) (le_trans k (lost (n * up d) (down e) (down g) (down_pos e) h.1)))
trans (fin true m e) (fin false n d) (fin false o g) h k = tt
trans (fin true m e) (fin false n d) (fin true o g) h k = le_trans (lost (o * up g) (down d) (down e) (down_pos d) k.1) zero-le
trans (fin true m e) (fin true n d) (fin false o g) h k = tt
trans (fin true m e) (fin true n d) (fin true o g) h k = through (o * up g) (n * up d) (m * up e) (down g) (down d) (down e) (down_pos d) k h

pub le_trans_float : (x y z : Float) → T (le x y) → T (le y z) → T (le x z)
le_trans_float x y z h k = (is_le x z).1 (trans x y z ((is_le x y).0 h) ((is_le y z).0 k))
