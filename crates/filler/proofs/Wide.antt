-- Beats whose denominators differ by a power of two alone keep their order as floats, whatever their numerators of 64 bits: a power of two goes through the rounding of a numerator.
use Rattle.std.proofs.Common.{◌≡◌, sym, ap, subst, ◌∙◌, true, false, ◌⊎◌, ⊎_elim, ℕ, ◌*◌, ◌^◌, ◌≤◌, ◌<◌, zero-le, le_trans, le_of_eq, mul-pos, mul-one, one-mul, mul_comm, mul_assoc, mul_left_comm, mul-le-mul, mul-le-mul_right, le_of_mul-le-mul_right, lt_of_lt_of_le, zero-mul, mul_right_comm, arith, pos, T, lit<, lit≤, pow_pos, Float}
use lib.Ieee.{nan, inf, fin, low, binary64, up, down, round, of_int}
use lib.Ieee.Fits.{down_pos}
use lib.Ieee.Exact.{HasValue}
use lib.Ieee.Back.{round_whole}
use lib.Ieee.Order.{transfer}
use lib.Ieee.Scale.{finite, grid, round_val, round_under, grid_scale, normal_of_fraction}
use lib.Ieee.Positive.{first_pos}
use Rattle.rounding.proofs.Laws.{Up, round_up, quotient_is}
use Rattle.beats.specs.Frames.{beat_float}
use Rattle.filler.proofs.Ordering.{finite_under, beat_is}

-- ---- a numerator as a float

-- the order of two values, in the fractions that they equal
crossed : (x y : Float) (a c b d : ℕ) → 0 < c → 0 < d → HasValue x false a c → HasValue y false b d → Up x y → a * d ≤ b * c
crossed nan y a c b d C D h k l = absurd h
crossed (inf s) y a c b d C D h k l = absurd h
crossed (fin true m e) y a c b d C D h k l = absurd l
crossed (fin false m e) nan a c b d C D h k l = absurd k
crossed (fin false m e) (inf t) a c b d C D h k l = absurd k
crossed (fin false m e) (fin true n g) a c b d C D h k l = absurd l
crossed (fin false m e) (fin false n g) a c b d C D h k l = transfer a b c d (m * up e) (n * up g) (down e) (down g) (down_pos e) (down_pos g) (sym h.1) (sym k.1) l

-- every number up to 2 ^ 117 has a finite float
top : T (finite (round binary64 false (2 ^ 64 * 2 ^ 53) 1))
unfolding round
top = tt

small_finite : (a : ℕ) → a ≤ 2 ^ 64 * 2 ^ 53 → T (finite (round binary64 false a 1))
small_finite a h =
    finite_under (round binary64 false a 1) (round binary64 false (2 ^ 64 * 2 ^ 53) 1) top (round_up binary64 a 1 (2 ^ 64 * 2 ^ 53) 1 (lit< tt) (lit< tt) (mul-le-mul_right 1 h))

-- in units of the format's smallest value
abbrev unit : ℕ
unit = 2 ^ low binary64

abbrev rounded : ℕ → ℕ
rounded n = grid binary64 n 1

has_rounded : (n : ℕ) → n ≤ 2 ^ 64 * 2 ^ 53 → HasValue (round binary64 false n 1) false (rounded n) unit
has_rounded n h = round_val binary64 n 1 (round_under binary64 n 1 (small_finite n h))

low_enough : 2 ^ 52 ≤ unit
low_enough = lit≤ tt

-- rounding goes through a power of two
through_pow : (n j : ℕ) → 0 < n → rounded (n * 2 ^ j) ≡ rounded n * 2 ^ j
through_pow n j h = grid_scale binary64 n 1 j (lit< tt) (normal_of_fraction binary64 n 1 (lit< tt) (le_trans (mul-le-mul low_enough h) (le_of_eq (mul_comm unit n))))

-- and keeps the order
rounded_order : (a b : ℕ) → a ≤ 2 ^ 64 * 2 ^ 53 → b ≤ 2 ^ 64 * 2 ^ 53 → a ≤ b → rounded a ≤ rounded b
rounded_order a b A B h =
    le_of_mul-le-mul_right
    (crossed (round binary64 false a 1) (round binary64 false b 1) (rounded a) unit (rounded b) unit (pow_pos (low binary64)) (pow_pos (low binary64)) (has_rounded a A) (has_rounded b B)
    (round_up binary64 a 1 b 1 (lit< tt) (lit< tt) (mul-le-mul_right 1 h)))
    (pow_pos (low binary64))

scaled_order : (n n' i j : ℕ) → 0 < n → 0 < n' → n ≤ 2 ^ 64 → n' ≤ 2 ^ 64 → 2 ^ i ≤ 2 ^ 53 → 2 ^ j ≤ 2 ^ 53 → n * 2 ^ j ≤ n' * 2 ^ i → rounded n * 2 ^ j ≤ rounded n' * 2 ^ i
scaled_order n n' i j P P' N N' I J h =
    le_trans (le_of_eq (sym (through_pow n j P)))
    (le_trans (rounded_order (n * 2 ^ j) (n' * 2 ^ i) (mul-le-mul N J) (mul-le-mul N' I) h) (le_of_eq (through_pow n' i P')))

-- ---- the quotient

largest : T (finite (round binary64 false (rounded (2 ^ 64)) unit))
unfolding round
largest = tt

module _ (n d : ℕ) (N : n ≤ 2 ^ 64) (D : 0 < d) (L : d ≤ 2 ^ 53) where
  wide_is : beat_float (pos n) d ≡ round binary64 false (rounded n) (d * unit)
  unfolding of_int
  wide_is =
      quotient_is binary64 (round binary64 false n 1) (round binary64 false d 1) (rounded n) unit d D (pow_pos (low binary64)) (has_rounded n (omega arith)) (round_whole binary64 false d L)

  -- it is finite
  pub wide_finite : T (finite (beat_float (pos n) d))
  wide_finite =
      subst (λ (x : Float). T (finite x)) (sym wide_is)
      (finite_under (round binary64 false (rounded n) (d * unit)) (round binary64 false (rounded (2 ^ 64)) unit) largest
      (round_up binary64 (rounded n) (d * unit) (rounded (2 ^ 64)) unit (mul-pos D (pow_pos (low binary64))) (pow_pos (low binary64))
      (mul-le-mul (rounded_order n (2 ^ 64) (omega arith) (lit≤ tt) N) (le_trans (le_of_eq (sym (one-mul unit))) (mul-le-mul_right unit D)))))

  -- and not below 0
  pub wide_zero : (d' : ℕ) → 0 < d' → d' ≤ 2 ^ 53 → Up (beat_float (pos 0) d') (beat_float (pos n) d)
  wide_zero d' D' L' =
      rw (wide_is, beat_is 0 d' (lit≤ tt) D' L') (round_up binary64 0 d' (rounded n) (d * unit) D' (mul-pos D (pow_pos (low binary64))) (le_trans (le_of_eq (zero-mul (d * unit))) zero-le))

-- n / (q * 2 ^ i) and n' / (q * 2 ^ j)
odd_up : (n n' q i j : ℕ) → 0 < n → n ≤ 2 ^ 64 → n' ≤ 2 ^ 64 → 0 < q → q * 2 ^ i ≤ 2 ^ 53 → q * 2 ^ j ≤ 2 ^ 53 → n * 2 ^ j ≤ n' * 2 ^ i
    → Up (beat_float (pos n) (q * 2 ^ i)) (beat_float (pos n') (q * 2 ^ j))
odd_up n n' q i j P N N' Q I J h =
    subst (λ (z : Float). Up z (beat_float (pos n') (q * 2 ^ j))) (sym (wide_is n (q * 2 ^ i) N (mul-pos Q (pow_pos i)) I))
    (subst (λ (z : Float). Up (round binary64 false (rounded n) (q * 2 ^ i * unit)) z) (sym (wide_is n' (q * 2 ^ j) N' (mul-pos Q (pow_pos j)) J))
    (round_up binary64 (rounded n) (q * 2 ^ i * unit) (rounded n') (q * 2 ^ j * unit) (mul-pos (mul-pos Q (pow_pos i)) (pow_pos (low binary64))) (mul-pos (mul-pos Q (pow_pos j)) (pow_pos (low binary64)))
    (spread (rounded n) (rounded n') q (2 ^ i) (2 ^ j) unit (scaled_order n n' i j P (first_pos n' (2 ^ i) (lt_of_lt_of_le (mul-pos P (pow_pos j)) h)) N N' (le_trans (under q (2 ^ i) Q) I) (le_trans (under q (2 ^ j) Q) J) h))))
  where
    under : (q a : ℕ) → 0 < q → a ≤ q * a
    under q a h = le_trans (le_of_eq (sym (one-mul a))) (mul-le-mul_right a h)

    spread : (g g' q a b u : ℕ) → g * b ≤ g' * a → g * (q * b * u) ≤ g' * (q * a * u)
    spread g g' q a b u h =
        let l : g * (q * b * u) ≡ g * b * (q * u) = simp (mul_assoc, mul_left_comm) in
        let r : g' * (q * a * u) ≡ g' * a * (q * u) = simp (mul_assoc, mul_left_comm) in
        le_trans (le_of_eq l) (le_trans (mul-le-mul_right (q * u) h) (le_of_eq (sym r)))

-- ---- denominators that differ by a power of two

abbrev pub Dyadic : ℕ → ℕ → Type 0
Dyadic d e = (c : ℕ) × ((e ≡ d * 2 ^ c) ⊎ (d ≡ e * 2 ^ c))

pub dyadic_up : (n d n' d' : ℕ) → 0 < n → n ≤ 2 ^ 64 → n' ≤ 2 ^ 64 → 0 < d → 0 < d' → d ≤ 2 ^ 53 → d' ≤ 2 ^ 53 → Dyadic d d' → n * d' ≤ n' * d
    → Up (beat_float (pos n) d) (beat_float (pos n') d')
dyadic_up n d n' d' P N N' D D' L L' w h =
    let c = w.0 in
    ⊎_elim
    (λ e.
    let m : n * 2 ^ c ≤ n' * 2 ^ 0 = le_of_mul-le-mul_right (le_trans (le_of_eq (mul_right_comm n (2 ^ c) d ∙ mul_assoc n d (2 ^ c))) (le_trans (le_of_eq (ap (λ (x : ℕ). n * x) (sym e))) (le_trans h (mul-le-mul_right d (le_of_eq (sym (mul-one n'))))))) D in
    subst (λ (x : ℕ). Up (beat_float (pos n) x) (beat_float (pos n') d')) (mul-one d)
    (subst (λ (x : ℕ). Up (beat_float (pos n) (d * 2 ^ 0)) (beat_float (pos n') x)) (sym e)
    (odd_up n n' d 0 c P N N' D (le_trans (le_of_eq (mul-one d)) L) (le_trans (le_of_eq (sym e)) L') m)))
    (λ e.
    let m : n * 2 ^ 0 ≤ n' * 2 ^ c = le_of_mul-le-mul_right (le_trans (mul-le-mul_right d' (le_of_eq (mul-one n))) (le_trans h (le_trans (le_of_eq (ap (λ (x : ℕ). n' * x) e)) (le_of_eq (sym (mul_right_comm n' (2 ^ c) d' ∙ mul_assoc n' d' (2 ^ c))))))) D' in
    subst (λ (x : ℕ). Up (beat_float (pos n) d) (beat_float (pos n') x)) (mul-one d')
    (subst (λ (x : ℕ). Up (beat_float (pos n) x) (beat_float (pos n') (d' * 2 ^ 0))) (sym e)
    (odd_up n n' d' c 0 P N N' D' (le_trans (le_of_eq (sym e)) L) (le_trans (le_of_eq (mul-one d')) L') m)))
    w.1
