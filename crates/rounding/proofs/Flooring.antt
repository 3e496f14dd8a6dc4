-- The floor of a float, from the whole part of its size. Below 2 ^ 53 the code makes it anew from that number; from there on, or at a zero, it is the float itself,
-- since a whole number that a format holds is what rounding makes of it.
use Rattle.std.proofs.Common.{◌≡◌, ℕ, zero, suc, ◌+◌, ◌-◌, ◌*◌, ◌/◌, ◌%◌, ◌^◌, ◌<◌, ◌≤◌, min, Bool, true, false, cond, ◌&&◌, T, eqb, ltb, leb, ℤ, pos, negsuc, sym, refl, ap, ◌∙◌, subst, true≢false, zero-le, le_trans, le_of_eq, le_refl, lt_of_lt_of_le, le_of_suc-le-suc, lt_of_le_of_lt, le_of_lt, add-le-add, lt_irrefl, mul_assoc, suc-mul, mul_comm, div-lt_iff_lt-mul, add-mul, lt_of_mul-lt-mul_right, mul-lt-mul_of_pos_right, le-div_iff_mul-le, zero-mul, mul-one, le-mul_of_pos_right, div-one, mul-div_cancel, arith, lit<, lit≤, ltb→lt, leb→le, pow_pos, pow-add}
use native.Mathlib.Nat.{div-eq_of_lt-le, min-le_left}
use native.Mathlib.Numerals.{lt-add-one}
use lib.Ieee.{Float, nan, inf, fin, Format, binary64, prec, emax, low, up, down, fits, ne, neg, odd, units, round, of_int, to_bits, to_unsigned}
use lib.Ieee.Fits.{and_l, and_r, down_pos, neg-fits, of_int-fits, round_is, round-fits}
use lib.Ieee.Exact.{HasValue, round_exact}
use lib.Ieee.Back.{round_whole, whole_unique}
use Rattle.rounding.specs.Floats.{is_negative, without_sign, floor_of, whole_above}
use Rattle.rounding.proofs.Words.{same_float}

-- ---- the whole numbers next to n / d

above_is : (n d k : ℕ) → 0 < d → n ≤ k * d → k * d < n + d → whole_above n d ≡ k
above_is n d k p hi lo = div-eq_of_lt-le d (least (k * d) n d lo) (lt_of_lt_of_le (most n (k * d) d p hi) (le_of_eq (sym (add-mul k 1 d))))
  where
    least : (a n d : ℕ) → a < n + d → a ≤ n + (d - 1)
    least a n d h = omega arith

    most : (n a d : ℕ) → 0 < d → n ≤ a → n + (d - 1) < a + 1 * d
    most n a d q h = omega arith

no_more : (n d k : ℕ) → 0 < d → k * d < n + d → k ≤ n
no_more n d k p lo = le_of_suc-le-suc (lt_of_mul-lt-mul_right d (lt_of_lt_of_le lo (le_trans (add-le-add (le-mul_of_pos_right n p) (le_refl d)) (le_of_eq (sym (suc-mul n d))))))

-- a number is below what it does not exceed, with more added
below_more : (a n d : ℕ) → 0 < d → a ≤ n → a < n + d
below_more a n d p h = omega arith

-- ---- a float that the format holds has few digits, is a multiple of the least, and is below the top

module _ (f : Format) (s : Bool) (m : ℕ) (e : ℤ) (held : T (fits f (fin s (suc m) e))) where
  pub few : suc m < 2 ^ prec f
  unfolding fits
  few = ltb→lt (suc m) (2 ^ prec f) (and_r (eqb (suc m % 2) 1) (ltb (suc m) (2 ^ prec f)) (and_l (eqb (suc m % 2) 1 && ltb (suc m) (2 ^ prec f)) (leb (down e) (2 ^ low f)) (and_l (eqb (suc m % 2) 1 && ltb (suc m) (2 ^ prec f) && leb (down e) (2 ^ low f)) (ltb (suc m * up e) (2 ^ suc (emax f) * down e)) held)))

  pub coarse : down e ≤ 2 ^ low f
  unfolding fits
  coarse = leb→le (down e) (2 ^ low f) (and_r (eqb (suc m % 2) 1 && ltb (suc m) (2 ^ prec f)) (leb (down e) (2 ^ low f)) (and_l (eqb (suc m % 2) 1 && ltb (suc m) (2 ^ prec f) && leb (down e) (2 ^ low f)) (ltb (suc m * up e) (2 ^ suc (emax f) * down e)) held))

  pub under_top : suc m * up e < 2 ^ suc (emax f) * down e
  unfolding fits
  under_top = ltb→lt (suc m * up e) (2 ^ suc (emax f) * down e) (and_r (eqb (suc m % 2) 1 && ltb (suc m) (2 ^ prec f) && leb (down e) (2 ^ low f)) (ltb (suc m * up e) (2 ^ suc (emax f) * down e)) held)

-- ---- a float without a fraction is what rounding makes of its whole number

below_top : (f : Format) (a : ℕ) → a < 2 ^ suc (emax f) → a * 2 ^ low f < 2 ^ (low f + suc (emax f))
below_top f a h = lt_of_lt_of_le (mul-lt-mul_of_pos_right h (pow_pos (low f))) (le_of_eq (mul_comm (2 ^ suc (emax f)) (2 ^ low f) ∙ sym (pow-add 2 (low f) (suc (emax f)))))

-- k is the size where there is no fraction, and at most the size where there is one: rounding then changes nothing
exact : (f : Format) (s : Bool) (m : ℕ) (e : ℤ) (k : ℕ) → T (fits f (fin s m e)) → (down e ≡ 1 → m * up e ≡ k) → k ≤ m * up e → HasValue (round f s k 1) s k 1
exact f s zero e k F h l = round_whole f s k (le_trans l (le_trans (le_of_eq (zero-mul (up e))) zero-le))
exact f s (suc m) (pos i) k F h l =
    let j : suc m * 2 ^ (i + low f) ≡ k * 2 ^ low f = ap (λ (x : ℕ). suc m * x) (pow-add 2 i (low f)) ∙ sym (mul_assoc (suc m) (2 ^ i) (2 ^ low f)) ∙ ap (λ (x : ℕ). x * 2 ^ low f) (h refl) in
    round_exact f s k 1 (suc m) (i + low f) (lit< tt) (few f s m (pos i) F)
    (subst (λ (x : ℕ). x < 2 ^ (low f + suc (emax f))) (sym j) (below_top f k (subst (λ (x : ℕ). x < 2 ^ suc (emax f)) (h refl) (lt_of_lt_of_le (under_top f s m (pos i) F) (le_of_eq (mul-one (2 ^ suc (emax f))))))))
    (sym (mul-one (suc m * 2 ^ (i + low f)) ∙ j))
exact f s (suc m) (negsuc i) k F h l = round_whole f s k (le_trans l (le_trans (le_of_eq (mul-one (suc m))) (le_of_lt (few f s m (negsuc i) F))))

is_whole : (f : Format) (s : Bool) (m : ℕ) (e : ℤ) (k : ℕ) → T (fits f (fin s m e)) → m * up e ≡ k * down e → fin s m e ≡ round f s k 1
is_whole f s m e k F h =
    whole_unique f (fin s m e) (round f s k 1) s k F (round-fits f s k 1) (refl, mul-one (m * up e) ∙ h)
    (exact f s m e k F (λ one. h ∙ ap (λ (d : ℕ). k * d) one ∙ mul-one k) (le_trans (le-mul_of_pos_right k (down_pos e)) (le_of_eq (sym h))))

-- so it is its own floor
kept : (f : Format) (s : Bool) (m : ℕ) (e : ℤ) (k : ℕ) → T (fits f (fin s m e)) → m * up e ≡ k * down e → fin s m e ≡ floor_of f (fin s m e)
unfolding floor_of
kept f false m e k F h = is_whole f false m e k F h ∙ ap (λ (j : ℕ). round f false j 1) (sym (ap (λ (n : ℕ). n / down e) h ∙ mul-div_cancel k (down_pos e)))
kept f true m e k F h = is_whole f true m e k F h ∙ ap (λ (j : ℕ). round f true j 1) (sym (above_is (m * up e) (down e) k (down_pos e) (le_of_eq h) (below_more (k * down e) (m * up e) (down e) (down_pos e) (le_of_eq (sym h)))))

-- from 2 ^ prec on there is no fraction
kept_large : (f : Format) (s : Bool) (m : ℕ) (e : ℤ) → T (fits f (fin s m e)) → 2 ^ prec f * down e ≤ m * up e → fin s m e ≡ floor_of f (fin s m e)
kept_large f s m (pos i) F h = kept f s m (pos i) (m * 2 ^ i) F (sym (mul-one (m * 2 ^ i)))
kept_large f s m (negsuc i) F h = absurd (lt_irrefl (2 ^ prec f) (lt_of_le_of_lt (le_trans (le-mul_of_pos_right (2 ^ prec f) (pow_pos (suc i))) h) (small m F)))
  where
    small : (m : ℕ) → T (fits f (fin s m (negsuc i))) → m * 1 < 2 ^ prec f
    small zero F = pow_pos (prec f)
    small (suc m) F = lt_of_le_of_lt (le_of_eq (mul-one (suc m))) (few f s m (negsuc i) F)

-- ---- what the floor's value is

module _ (f : Format) (m : ℕ) (e : ℤ) (k : ℕ) where
  pub floor_below : T (fits f (fin false m e)) → k * down e ≤ m * up e → m * up e < (k + 1) * down e → HasValue (floor_of f (fin false m e)) false k 1
  unfolding floor_of
  floor_below F lo hi =
      let is : m * up e / down e ≡ k = div-eq_of_lt-le (down e) lo hi in
      subst (λ (j : ℕ). HasValue (round f false j 1) false k 1) (sym is)
      (exact f false m e k F (λ one. sym (sym is ∙ ap (λ (d : ℕ). m * up e / d) one ∙ div-one (m * up e))) (le_trans (le-mul_of_pos_right k (down_pos e)) lo))

  pub floor_above : T (fits f (fin true m e)) → m * up e ≤ k * down e → k * down e < m * up e + down e → HasValue (floor_of f (fin true m e)) true k 1
  unfolding floor_of
  floor_above F hi lo =
      subst (λ (j : ℕ). HasValue (round f true j 1) true k 1) (sym (above_is (m * up e) (down e) k (down_pos e) hi lo))
      (exact f true m e k F (λ one. go (m * up e) k (subst (λ (d : ℕ). m * up e ≤ k * d) one hi) (subst (λ (d : ℕ). k * d < m * up e + d) one lo)) (no_more (m * up e) (down e) k (down_pos e) lo))
    where
      go : (n k : ℕ) → n ≤ k * 1 → k * 1 < n + 1 → n ≡ k
      go n k p q = omega arith

-- ---- a negative number is rounded as its size is

neg_odd : (d q k l : ℕ) → neg (odd d false q k l) ≡ odd d true q k l
unfolding neg odd
neg_odd d zero k l = refl
neg_odd d (suc q) k l = refl

neg_units : (f : Format) (q k : ℕ) → neg (units f false q k) ≡ units f true q k
unfolding units neg
neg_units f q k = go (ltb (q * 2 ^ k) (2 ^ (low f + suc (emax f))))
  where
    go : (b : Bool) → neg (cond b (odd (suc (prec f)) false q k (low f)) (inf false)) ≡ cond b (odd (suc (prec f)) true q k (low f)) (inf true)
    go true = neg_odd (suc (prec f)) q k (low f)
    go false = refl

neg_round : (f : Format) (n : ℕ) → neg (round f false n 1) ≡ round f true n 1
neg_round f n = ap neg (round_is f false n 1) ∙ neg_units f _ _ ∙ sym (round_is f true n 1)

-- ---- what the proof of `floor` cites, of an `f64` by the whole part of its size

abbrev pub part : Float → ℕ
part x = to_unsigned 64 (without_sign x)

pub floor_nan : (x : Float) → x ≡ nan → x ≡ floor_of binary64 x
unfolding floor_of
floor_nan x h = rw h

-- from 2 ^ 53 on there is no fraction
pub floor_large : (x : Float) → T (fits binary64 x) → 2 ^ 53 - 1 < part x → x ≡ floor_of binary64 x
unfolding to_unsigned without_sign floor_of
floor_large nan F h = refl
floor_large (inf s) F h = refl
floor_large (fin s m e) F h = kept_large binary64 s m e F ((le-div_iff_mul-le (down_pos e)).0 (go (m * up e / down e) h))
  where
    go : (k : ℕ) → 2 ^ 53 - 1 < min k (2 ^ 64 - 1) → 2 ^ 53 ≤ k
    go k h = omega arith

uncapped : (k : ℕ) → min k (2 ^ 64 - 1) ≤ 2 ^ 53 - 1 → min k (2 ^ 64 - 1) ≡ k
uncapped k h = omega arith

-- an infinity is not below that
endless : 2 ^ 64 - 1 ≤ 2 ^ 53 - 1 → ⊥
endless h = omega arith

-- without a minus the floor is the whole part
pub floor_up : (x : Float) → ne x x ≡ false → part x ≤ 2 ^ 53 - 1 → is_negative x ≡ false → of_int binary64 (pos (part x)) ≡ floor_of binary64 x
unfolding ne to_unsigned without_sign is_negative of_int floor_of
floor_up nan n h s = absurd (true≢false n)
floor_up (inf t) n h s = absurd (endless h)
floor_up (fin true m e) n h s = absurd (true≢false s)
floor_up (fin false m e) n h s = ap (λ (k : ℕ). round binary64 false k 1) (uncapped (m * up e / down e) h)

-- the whole part with a minus
abbrev pub turned : Float → Float
turned x = neg (of_int binary64 (pos (part x)))

-- with a minus the floor is x where that is x, which the bits say, and else the number after it
at : (x : Float) → T (fits binary64 x) → part x ≤ 2 ^ 53 - 1 → is_negative x ≡ true → x ≡ turned x → x ≡ floor_of binary64 x
unfolding to_unsigned without_sign is_negative of_int floor_of
at nan F h s is = refl
at (inf t) F h s is = refl
at (fin false m e) F h s is = absurd (true≢false (sym s))
at (fin true m e) F h s is =
    let n = min (m * up e / down e) (2 ^ 64 - 1) in
    kept binary64 true m e n F (rw mul-one at (subst (λ (y : Float). HasValue y true n 1) (sym (is ∙ neg_round binary64 n)) (round_whole binary64 true n (le_trans h (lit≤ tt)))).1)

pub floor_at : (x : Float) → T (fits binary64 x) → part x ≤ 2 ^ 53 - 1 → is_negative x ≡ true → to_bits binary64 x ≡ to_bits binary64 (turned x) → x ≡ floor_of binary64 x
floor_at x F h s w = at x F h s (same_float binary64 x (turned x) F (neg-fits binary64 (of_int binary64 (pos (part x))) (of_int-fits binary64 (pos (part x)))) w)

pub floor_after : (x : Float) → T (fits binary64 x) → ne x x ≡ false → part x ≤ 2 ^ 53 - 1 → is_negative x ≡ true → (to_bits binary64 x ≡ to_bits binary64 (turned x) → ⊥) → neg (of_int binary64 (pos (part x + 1))) ≡ floor_of binary64 x
unfolding ne to_unsigned without_sign is_negative of_int floor_of
floor_after nan F n h s w = absurd (true≢false n)
floor_after (inf t) F n h s w = absurd (endless h)
floor_after (fin false m e) F n h s w = absurd (true≢false (sym s))
floor_after (fin true m e) F n h s w =
    let k = min (m * up e / down e) (2 ^ 64 - 1) in
    let below : k * down e ≤ m * up e = (le-div_iff_mul-le (down_pos e)).0 (min-le_left (m * up e / down e) (2 ^ 64 - 1)) in
    neg_round binary64 (k + 1)
    ∙ ap (λ (j : ℕ). round binary64 true j 1)
    (sym (above_is (m * up e) (down e) (k + 1) (down_pos e) (le_of_lt ((div-lt_iff_lt-mul (down_pos e)).0 (lt_of_le_of_lt (le_of_eq (sym (uncapped (m * up e / down e) h))) (lt-add-one k))))
    (lt_of_le_of_lt (le_of_eq (add-mul k 1 (down e))) (go (k * down e) (m * up e) (down e) below (λ is. w (ap (λ (y : Float). to_bits binary64 y) (is_whole binary64 true m e k F (sym is) ∙ sym (neg_round binary64 k))))))))
  where
    go : (a n d : ℕ) → a ≤ n → (a ≡ n → ⊥) → a + 1 * d < n + d
    go a n d l q = omega arith
