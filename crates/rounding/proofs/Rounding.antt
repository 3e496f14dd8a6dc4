-- The size of an `f64` as a whole number, from its pattern: the two fields say what fraction the size is, and the nearest number, like the cut one, sees only a
-- fraction's value, so it is that of the digits, shifted.
use Rattle.std.proofs.Common.{◌≡◌, ℕ, zero, suc, ◌+◌, ◌-◌, ◌*◌, ◌/◌, ◌%◌, ◌^◌, ◌<◌, ◌≤◌, min, Bool, true, false, cond, not, T, eqb, leb, sym, refl, ap, ◌∙◌, subst, zero-le, le_trans, le_of_eq, le_refl, lt_of_lt_of_le, le-add_right, lt_of_le_of_lt, add-zero, add-le-add, mul-le-mul_right, mod-lt, mul_assoc, mul_comm, ne_of_gt, le-div_iff_mul-le, mul-one, ne_of_lt, mul_right_comm, div-one, sub-le, arith, lit≤, eqb→eq, pow_pos, pow_mono, pow-add, shl_lt, shl_exact}
use native.Mathlib.Nat.{div-eq_of_lt, div-div-eq-div-mul, add-div_right, min-eq_right, min-eq_left}
use lib.Pow.{shr_le, le_ones, mod-mod-pow}
use mir.Val.{bool_byte}
use lib.Bits.{bit_and, bit_or, and_mask, or_shifted_r}
use lib.Ieee.{Float, nan, inf, fin, Format, binary64, prec, low, hid, ones, top, up, down, odd, fits, is_nan, of_fields, of_bits, to_bits, to_unsigned}
use lib.Ieee.Fits.{down_pos}
use lib.Ieee.Bits.{of_bits-to_bits}
use lib.Ieee.Digits.{Equals, odd_val}
use lib.Ieee.Nearest.{div_same, div_mono}
use Rattle.rounding.specs.Floats.{half_up, round_away, without_sign}

-- ---- a fraction as a whole number: the nearest, halves up, or cut

abbrev whole : Bool → ℕ → ℕ → ℕ
whole nearest n d = cond nearest (half_up n d) (n / d)

-- the fraction, doubled to be rounded, is cut, and one more half is halved with it
by_half : (nearest : Bool) (n d : ℕ) → 0 < d → whole nearest n d ≡ (n * 2 ^ bool_byte nearest / d + bool_byte nearest) / 2 ^ bool_byte nearest
by_half true n d D = rw (mul_comm 2 d, ← div-div-eq-div-mul) (ap (λ (k : ℕ). k / 2) (add-div_right (2 * n) D) ∙ ap (λ (k : ℕ). (k / d + 1) / 2) (mul_comm 2 n))
by_half false n d D = rw (mul-one, add-zero, div-one) refl

same : (nearest : Bool) (n d a c : ℕ) → 0 < d → 0 < c → n * c ≡ a * d → whole nearest n d ≡ whole nearest a c
same nearest n d a c D C v =
    let p = 2 ^ bool_byte nearest in
    by_half nearest n d D
    ∙ ap (λ (k : ℕ). (k + bool_byte nearest) / p) (div_same (n * p) d (a * p) c D C (mul_right_comm n p c ∙ ap (λ (k : ℕ). k * p) v ∙ mul_right_comm a d p))
    ∙ sym (by_half nearest a c C)

-- a whole number itself
own : (nearest : Bool) (k : ℕ) → whole nearest k 1 ≡ k
own true k = omega arith
own false k = div-one k

-- below a half
none : (nearest : Bool) (a h : ℕ) → a < h → whole nearest a (2 * h) ≡ 0
none true a h l = div-eq_of_lt (go a h l)
  where
    go : (u v : ℕ) → u < v → 2 * u + 2 * v < 2 * (2 * v)
    go u v k = omega arith
none false a h l = div-eq_of_lt (omega arith)

-- a number that the fraction reaches
reached : (nearest : Bool) (p a c : ℕ) → 0 < c → p * c ≤ a → p ≤ whole nearest a c
reached true p a c C h = le_trans ((le-div_iff_mul-le C).1 h) (div_mono a c (2 * a + c) (2 * c) C (omega arith) (omega arith))
reached false p a c C h = (le-div_iff_mul-le C).1 h

-- ---- the size of a float

abbrev pub size : Bool → Float → ℕ
size nearest x = to_unsigned 64 (without_sign (cond nearest (round_away x) x))

-- that size is a / c
sized : (nearest : Bool) (x : Float) (a c : ℕ) → 0 < c → Equals x a c → size nearest x ≡ min (whole nearest a c) (2 ^ 64 - 1)
unfolding to_unsigned round_away without_sign
sized nearest nan a c C v = absurd v
sized nearest (inf s) a c C v = absurd v
sized true (fin s m e) a c C v =
    let k = half_up (m * up e) (down e) in
    ap (λ (j : ℕ). min j (2 ^ 64 - 1)) (div-one (k * 1) ∙ mul-one k ∙ same true (m * up e) (down e) a c (down_pos e) C v)
sized false (fin s m e) a c C v = ap (λ (j : ℕ). min j (2 ^ 64 - 1)) (same false (m * up e) (down e) a c (down_pos e) C v)

size_inf : (nearest s : Bool) → size nearest (inf s) ≡ 2 ^ 64 - 1
unfolding to_unsigned round_away without_sign
size_inf true s = refl
size_inf false s = refl

pub size_nan : (nearest : Bool) → size nearest nan ≡ 0
unfolding to_unsigned round_away without_sign
size_nan true = refl
size_nan false = refl

-- ---- a pattern's fields, over the format

-- what a pattern's two fields, the exponent and the digits behind the leading one, say of the size of x
data Shape (f : Format) (exponent fraction : ℕ) (x : Float) : Type 0 where
  tiny : exponent ≡ 0 → Equals x (fraction * 2 ^ 0) (2 ^ low f) → Shape f exponent fraction x
  usual : (j : ℕ) → exponent ≡ suc j → Equals x ((hid f + fraction) * 2 ^ j) (2 ^ low f) → Shape f exponent fraction x
  endless : (s : Bool) → exponent ≡ ones f → x ≡ inf s → Shape f exponent fraction x

of_fields_lem : (f : Format) (s : Bool) (exponent fraction : ℕ) → T (not (is_nan (of_fields f s exponent fraction))) → Shape f exponent fraction (of_fields f s exponent fraction)
unfolding of_fields is_nan
of_fields_lem f s zero fraction n = tiny refl (odd_val (prec f) s fraction 0 (low f))
of_fields_lem f s (suc j) fraction n = go (eqb (suc j) (ones f)) (eqb fraction 0) (eqb→eq (suc j) (ones f)) n
  where
    go : (a b : Bool) → (T a → suc j ≡ ones f) → T (not (is_nan (cond a (cond b (inf s) nan) (odd (prec f) s (hid f + fraction) j (low f)))))
        → Shape f (suc j) fraction (cond a (cond b (inf s) nan) (odd (prec f) s (hid f + fraction) j (low f)))
    go true true h k = endless s (h tt) refl
    go true false h k = absurd k
    go false b h k = usual j refl (odd_val (prec f) s (hid f + fraction) j (low f))

-- the fields of the pattern b
abbrev Of : Format → ℕ → Float → Type 0
Of f b x = T (not (is_nan x)) → Shape f (b % top f / hid f) (b % hid f) x

of_bits_lem : (f : Format) (b : ℕ) → Of f b (of_bits f b)
unfolding of_bits
of_bits_lem f b n = of_fields_lem f (leb (top f) b) (b % top f / hid f) (b % hid f) n

shape : (f : Format) (x : Float) → T (fits f x) → Of f (to_bits f x) x
shape f x F = subst (λ (y : Float). Of f (to_bits f x) y) (of_bits-to_bits f x F) (of_bits_lem f (to_bits f x))

-- ---- the body's arithmetic, on the two fields of an `f64`

with_lead : (fraction : ℕ) → fraction < 2 ^ 52 → 2 ^ 52 + fraction < 2 ^ 53
with_lead fraction h = omega arith

scaled : (q i j l : ℕ) → i + j ≡ l → q * 2 ^ i * 2 ^ j ≡ q * 2 ^ l
scaled q i j l h = mul_assoc q (2 ^ i) (2 ^ j) ∙ ap (λ (k : ℕ). q * k) (sym (pow-add 2 i j) ∙ ap (λ (k : ℕ). 2 ^ k) h)

shift_room : (exponent : ℕ) → exponent ≤ 1086 → 53 + (exponent - 1075) ≤ 64
shift_room exponent h = omega arith

pub at_most_one : (b : Bool) → bool_byte b ≤ 1
at_most_one true = lit≤ tt
at_most_one false = lit≤ tt

half_more : (nearest : Bool) (q n : ℕ) → q < 2 ^ 53 → n ≤ q * 2 ^ bool_byte nearest → n + bool_byte nearest < 2 ^ 64
half_more true q n h k = omega arith
half_more false q n h k = omega arith

module _ (nearest : Bool) (exponent fraction : ℕ) (x : Float) (l : fraction < 2 ^ 52) where
  abbrev lead : ℕ
  lead = 2 ^ 52 + fraction

  small : exponent < 1022 → Shape binary64 exponent fraction x → 0 ≡ size nearest x
  small h (tiny z v) = sym (sized nearest x (fraction * 1) (2 ^ 1074) (pow_pos 1074) v ∙ ap (λ (k : ℕ). min k (2 ^ 64 - 1)) (none nearest (fraction * 1) (2 ^ 1073) (lt_of_lt_of_le (shl_lt 52 0 l) (pow_mono {i = 52} {j = 1073} (lit≤ tt)))))
  small h (usual j z v) =
      sym (sized nearest x (lead * 2 ^ j) (2 ^ 1074) (pow_pos 1074) v
      ∙ ap (λ (k : ℕ). min k (2 ^ 64 - 1)) (none nearest (lead * 2 ^ j) (2 ^ 1073) (lt_of_lt_of_le (shl_lt 53 j (with_lead fraction l)) (pow_mono (go exponent j h z)))))
    where
      go : (e i : ℕ) → e < 1022 → e ≡ suc i → 53 + i ≤ 1073
      go e i p q = omega arith
  small h (endless s z v) = absurd (go exponent h z)
    where
      go : (e : ℕ) → e < 1022 → e ≡ 2047 → ⊥
      go e p q = omega arith

  large : 1086 < exponent → Shape binary64 exponent fraction x → 2 ^ 64 - 1 ≡ size nearest x
  large h (tiny z v) = absurd (ne_of_gt (lt_of_le_of_lt zero-le h) z)
  large h (usual j z v) =
      sym (sized nearest x (lead * 2 ^ j) (2 ^ 1074) (pow_pos 1074) v
      ∙ min-eq_right (le_trans (sub-le (2 ^ 64) 1) (reached nearest (2 ^ 64) (lead * 2 ^ j) (2 ^ 1074) (pow_pos 1074)
      (le_trans (le_trans (pow_mono {i = 1138} (go exponent j h z)) (le_of_eq (pow-add 2 52 j))) (mul-le-mul_right (2 ^ j) (le-add_right (2 ^ 52) fraction))))))
    where
      go : (e i : ℕ) → 1086 < e → e ≡ suc i → 1138 ≤ 52 + i
      go e i p q = omega arith
  large h (endless s z v) = sym (ap (λ (y : Float). size nearest y) v ∙ size_inf nearest s)

  -- where the digits have a leading one: by another fraction a / c of the same value, whose whole number has room
  between : 0 < exponent → exponent < 2047 → Shape binary64 exponent fraction x → (a c : ℕ) → 0 < c → lead * 2 ^ (exponent - 1) * c ≡ a * 2 ^ 1074 → whole nearest a c < 2 ^ 64 → whole nearest a c ≡ size nearest x
  between h i (tiny z v) a c C w room = absurd (ne_of_gt h z)
  between h i (endless s z v) a c C w room = absurd (ne_of_lt i z)
  between h i (usual j z v) a c C w room =
      sym (sized nearest x (lead * 2 ^ j) (2 ^ 1074) (pow_pos 1074) v
      ∙ ap (λ (n : ℕ). min n (2 ^ 64 - 1)) (same nearest (lead * 2 ^ j) (2 ^ 1074) a c (pow_pos 1074) C (ap (λ (n : ℕ). lead * 2 ^ n * c) (go exponent j z) ∙ w))
      ∙ min-eq_left (le_ones 64 room))
    where
      go : (n i : ℕ) → n ≡ suc i → i ≡ n - 1
      go n i q = omega arith

  -- from 1022 to 1075 the digits are shifted down, from 1076 to 1086 up
  down_to : 1022 ≤ exponent → exponent ≤ 1075 → Shape binary64 exponent fraction x → (lead * 2 ^ bool_byte nearest / 2 ^ (1075 - exponent) + bool_byte nearest) / 2 ^ bool_byte nearest ≡ size nearest x
  down_to a b fields =
      let c = 2 ^ (1075 - exponent) in
      let is = by_half nearest lead c (pow_pos (1075 - exponent)) in
      sym is
      ∙ between (omega arith) (omega arith) fields lead c (pow_pos (1075 - exponent)) (scaled lead (exponent - 1) (1075 - exponent) 1074 (omega arith))
      (lt_of_le_of_lt (le_of_eq is) (lt_of_le_of_lt (shr_le (lead * 2 ^ bool_byte nearest / c + bool_byte nearest) (bool_byte nearest)) (half_more nearest lead (lead * 2 ^ bool_byte nearest / c) (with_lead fraction l) (shr_le (lead * 2 ^ bool_byte nearest) (1075 - exponent)))))

  up_to : 1075 < exponent → exponent ≤ 1086 → Shape binary64 exponent fraction x → lead * 2 ^ (exponent - 1075) ≡ size nearest x
  up_to a b fields =
      let k = lead * 2 ^ (exponent - 1075) in
      sym (own nearest k)
      ∙ between (omega arith) (omega arith) fields k 1 (lit≤ tt) (mul-one (lead * 2 ^ (exponent - 1)) ∙ sym (scaled lead (exponent - 1075) 1074 (exponent - 1) (omega arith)))
      (lt_of_le_of_lt (le_of_eq (own nearest k)) (lt_of_lt_of_le (shl_lt 53 (exponent - 1075) (with_lead fraction l)) (pow_mono (shift_room exponent b))))

-- ---- what the proof of `whole_size` cites, of an x that the format holds and that is no NaN, and of its pattern

module _ (nearest : Bool) (x : Float) (F : T (fits binary64 x)) (N : T (not (is_nan x))) where
  abbrev bits : ℕ
  bits = bit_and (to_bits binary64 x) (2 ^ 63 - 1)

  abbrev exponent : ℕ
  exponent = bits / 2 ^ 52

  abbrev digits : ℕ
  digits = bit_or (bit_and bits (2 ^ 52 - 1)) (2 ^ 52)

  abbrev fraction : ℕ
  fraction = bits % 2 ^ 52

  fields : Shape binary64 exponent fraction x
  fields = rw and_mask (rw (mod-mod-pow (to_bits binary64 x) 11 52) (shape binary64 x F N))

  fraction_lt : fraction < 2 ^ 52
  fraction_lt = mod-lt bits (pow_pos 52)

  shifted : (k : ℕ) → 53 + k ≤ 64 → digits * 2 ^ k % 2 ^ 64 ≡ (2 ^ 52 + fraction) * 2 ^ k
  shifted k h = rw (and_mask bits 52, or_shifted_r 1 52 fraction fraction_lt) (shl_exact 53 k 64 (with_lead fraction fraction_lt) h)

  twice : digits * 2 ^ bool_byte nearest % 2 ^ 64 ≡ (2 ^ 52 + fraction) * 2 ^ bool_byte nearest
  twice = shifted (bool_byte nearest) (le_trans (add-le-add (le_refl 53) (at_most_one nearest)) (lit≤ tt))

  pub under_half : exponent < 1022 → 0 ≡ size nearest x
  under_half h = small nearest exponent fraction x fraction_lt h fields

  pub too_large : 1086 < exponent → 2 ^ 64 - 1 ≡ size nearest x
  too_large h = large nearest exponent fraction x fraction_lt h fields

  pub half_room : digits * 2 ^ bool_byte nearest % 2 ^ 64 / 2 ^ (1075 - exponent) + bool_byte nearest < 2 ^ 64
  half_room = half_more nearest (2 ^ 52 + fraction) (digits * 2 ^ bool_byte nearest % 2 ^ 64 / 2 ^ (1075 - exponent)) (with_lead fraction fraction_lt) (le_trans (shr_le (digits * 2 ^ bool_byte nearest % 2 ^ 64) (1075 - exponent)) (le_of_eq twice))

  pub cut_down : 1022 ≤ exponent → exponent ≤ 1075 → (digits * 2 ^ bool_byte nearest % 2 ^ 64 / 2 ^ (1075 - exponent) + bool_byte nearest) / 2 ^ bool_byte nearest ≡ size nearest x
  cut_down a b = ap (λ (k : ℕ). (k / 2 ^ (1075 - exponent) + bool_byte nearest) / 2 ^ bool_byte nearest) twice ∙ down_to nearest exponent fraction x fraction_lt a b fields

  pub cut_up : 1075 < exponent → exponent ≤ 1086 → digits * 2 ^ (exponent - 1075) % 2 ^ 64 ≡ size nearest x
  cut_up a b = shifted (exponent - 1075) (shift_room exponent b) ∙ up_to nearest exponent fraction x fraction_lt a b fields
