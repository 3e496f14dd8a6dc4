-- The order of two floats is that of their places, which are read from the bits: without its sign a pattern never falls as the size rises, and no two sizes
-- have one pattern. Over the format.
use Rattle.std.proofs.Common.{◌≡◌, ℕ, zero, suc, ◌+◌, ◌-◌, ◌*◌, ◌/◌, ◌^◌, ◌<◌, ◌≤◌, Bool, true, false, cond, not, ◌&&◌, T, ltb, ℤ, pos, sym, refl, ap, ◌∙◌, inl, inr, true≢false, zero-le, le_trans, le_of_eq, le_refl, lt_of_lt_of_le, le-add_right, lt_of_le_of_lt, le_of_lt, add_assoc, add-le-add, mul-le-mul_right, suc-mul, mul_comm, div-lt_iff_lt-mul, eq-zero-or-pos, eq-or-lt_of_le, mul-lt-mul_of_pos_right, le-div_iff_mul-le, zero-add, zero-mul, mul-one, mul_right_comm, arith, lit<, pow_pos, pow-add, le-ltb, lt-ltb}
use native.Mathlib.Nat.{zero-div}
use native.Mathlib.Numerals.{lt_of_le_of_ne}
use lib.Ieee.{Float, nan, inf, fin, Format, binary32, binary64, prec, emax, low, hid, top, up, down, size, fits, is_nan, lt, below, to_bits}
use lib.Ieee.Digits.{size-lt, size-le, size_reaches}
use lib.Ieee.Bits.{cond_no}
use lib.Ieee.Fits.{two, kept-lt, down_pos}
use lib.Ieee.Nearest.{div_mono}
use lib.Ieee.Positive.{first_pos}
use Rattle.numbers.proofs.Laws.{ltb_same}
use Rattle.rounding.specs.Floats.{is_negative, without_sign, place_of, maximum}
use Rattle.rounding.proofs.Picks.{not_below_itself}
use Rattle.rounding.proofs.Words.{inf_word, same_float}
use Rattle.rounding.proofs.Flooring.{under_top}
use Rattle.rounding.proofs.Order.{lost}

-- ---- a pattern without its sign

twice : (f : Format) → 2 ^ prec f ≡ 2 * hid f
twice binary32 = refl
twice binary64 = refl

fewer : (a b p : ℕ) → a ≤ b → a - p ≤ b - p
fewer a b p h = omega arith

module _ (f : Format) where
  -- that of n times the least value: the exponent's field says how many digits are dropped, and the leading one of those that are kept adds one to it
  abbrev pattern : ℕ → ℕ
  pattern n = (size n - prec f) * hid f + n / 2 ^ (size n - prec f)

  -- it never falls: where as many are dropped those that are kept decide, and else the field does, since then the larger number keeps a leading one
  level : (k l a b : ℕ) → k ≡ l → a ≤ b → k * hid f + a / 2 ^ k ≤ l * hid f + b / 2 ^ l
  level k l a b e h = rw e (add-le-add (le_refl (l * hid f)) (div_mono a (2 ^ l) b (2 ^ l) (pow_pos l) (pow_pos l) (mul-le-mul_right (2 ^ l) h)))

  apart : (k l a b : ℕ) → k < l → a < 2 ^ prec f → hid f ≤ b → k * hid f + a ≤ l * hid f + b
  apart k l a b g u v = omega (arith, twice f, suc-mul k (hid f), mul-le-mul_right (hid f) g)

  leading : (b k : ℕ) → k < size b - prec f → hid f ≤ b / 2 ^ (size b - prec f)
  leading b k g =
      let l = size b - prec f in
      (le-div_iff_mul-le (pow_pos l)).1 (le_trans (le_of_eq (sym (pow-add 2 (prec f - 1) l))) (size_reaches b (prec f - 1 + l) (go (size b) (prec f) (two f) g)))
    where
      go : (n p : ℕ) → 2 ≤ p → k < n - p → p - 1 + (n - p) < n
      go n p t h = omega arith

  rises : (a b : ℕ) → a ≤ b → pattern a ≤ pattern b
  rises a b h =
      let k = size a - prec f in
      let l = size b - prec f in
      elim (eq-or-lt_of_le (fewer (size a) (size b) (prec f) (size-le a (size b) (lt_of_le_of_lt h (size-lt b))))) [
        | inl e ↦ level k l a b e h
        | inr g ↦ apart k l (a / 2 ^ k) (b / 2 ^ l) g (kept-lt (prec f) a) (leading b k g)
      ]

  -- the size m * 2 ^ e, in the least value, and its pattern
  abbrev units : ℕ → ℤ → ℕ
  units m e = m * up e * 2 ^ low f / down e

  abbrev word : ℕ → ℤ → ℕ
  word m e = to_bits f (fin false m e)

  word_is : (m : ℕ) (e : ℤ) → word m e ≡ pattern (units m e)
  unfolding to_bits
  word_is m e = rw zero-add

  -- of two sizes the smaller has no larger pattern, and not the same: else the two floats would be one
  weak : (m : ℕ) (e : ℤ) (n : ℕ) (d : ℤ) → m * up e * down d ≤ n * up d * down e → word m e ≤ word n d
  weak m e n d h =
      let u = 2 ^ low f in
      rw (word_is m e, word_is n d)
      (rises (units m e) (units n d) (div_mono (m * up e * u) (down e) (n * up d * u) (down d) (down_pos e) (down_pos d)
      (le_trans (le_of_eq (mul_right_comm (m * up e) u (down d))) (le_trans (mul-le-mul_right u h) (le_of_eq (mul_right_comm (n * up d) (down e) u))))))

  strict : (s : Bool) (m : ℕ) (e : ℤ) (t : Bool) (n : ℕ) (d : ℤ) → T (fits f (fin s m e)) → T (fits f (fin t n d)) → m * up e * down d < n * up d * down e → word m e < word n d
  unfolding lt fits
  strict s m e t n d F G h =
      lt_of_le_of_ne (weak m e n d (le_of_lt h))
      (λ w. true≢false (sym (lt-ltb (m * up e * down d) (n * up d * down e) h)
      ∙ ap (λ (x : Float). lt x (fin false n d)) (same_float f (fin false m e) (fin false n d) (plus s m e F) (plus t n d G) w)
      ∙ not_below_itself (fin false n d)))
    where
      plus : (u : Bool) (k : ℕ) (i : ℤ) → T (fits f (fin u k i)) → T (fits f (fin false k i))
      plus u zero i h = h
      plus u (suc k) i h = h

  units_under : (s : Bool) (m : ℕ) (e : ℤ) → T (fits f (fin s m e)) → units m e < 2 ^ (low f + suc (emax f))
  units_under s zero e F = rw (zero-mul, zero-mul, zero-div) (pow_pos (low f + suc (emax f)))
  units_under s (suc m) e F =
      (div-lt_iff_lt-mul (down_pos e)).1
      (lt_of_lt_of_le (mul-lt-mul_of_pos_right (under_top f s m e F) (pow_pos (low f))) (le_of_eq (rw (mul_right_comm, mul_comm (2 ^ suc (emax f)) (2 ^ low f), ← pow-add) refl)))

-- the least pattern, and the last before an infinity's
zero_word : (f : Format) → word f 0 (pos 0) ≡ 0
unfolding to_bits
zero_word binary32 = refl
zero_word binary64 = refl

last : (f : Format) → pattern f (2 ^ (low f + suc (emax f)) - 1) < inf_word f
unfolding size
last binary32 = lit< tt
last binary64 = lit< tt

under_inf : (f : Format) (s : Bool) (m : ℕ) (e : ℤ) → T (fits f (fin s m e)) → word f m e < inf_word f
under_inf f s m e F =
    let most = 2 ^ (low f + suc (emax f)) in
    lt_of_le_of_lt (le_trans (le_of_eq (word_is f m e)) (rises f (units f m e) (most - 1) (go (units f m e) most (units_under f s m e F)))) (last f)
  where
    go : (a b : ℕ) → a < b → a ≤ b - 1
    go a b h = omega arith

-- ---- the sign, above the pattern of the size

sign_apart : (f : Format) (x : Float) → to_bits f x ≡ cond (is_negative x) (top f) 0 + to_bits f (without_sign x)
unfolding to_bits is_negative without_sign
sign_apart f nan = sym (zero-add (to_bits f nan))
sign_apart f (inf s) = rw zero-add refl
sign_apart f (fin s m e) = rw (zero-add, add_assoc) refl

nan_under : (f : Format) → inf_word f + hid f / 2 < top f
nan_under binary32 = lit< tt
nan_under binary64 = lit< tt

inf_under : (f : Format) → inf_word f < top f
inf_under f = lt_of_le_of_lt (le-add_right (inf_word f) (hid f / 2)) (nan_under f)

size_under : (f : Format) (x : Float) → T (fits f x) → to_bits f (without_sign x) < top f
unfolding to_bits without_sign
size_under f nan F = nan_under f
size_under f (inf s) F = rw zero-add (inf_under f)
size_under f (fin s m e) F = lt_of_le_of_lt (le_of_lt (under_inf f s m e F)) (inf_under f)

pub sign_place_lem : (f : Format) (x : Float) → T (fits f x) → ltb (top f - 1) (to_bits f x) ≡ is_negative x
sign_place_lem f x F = ap (λ (w : ℕ). ltb (top f - 1) w) (sign_apart f x) ∙ go (is_negative x) (top f) (to_bits f (without_sign x)) (size_under f x F)
  where
    go : (s : Bool) (a p : ℕ) → p < a → ltb (a - 1) (cond s a 0 + p) ≡ s
    go true a p h = lt-ltb (a - 1) (a + p) (omega arith)
    go false a p h = le-ltb (a - 1) (0 + p) (omega arith)

-- ---- the order of places

-- p places after the middle o, or before it
abbrev at : ℕ → Bool → ℕ → ℕ
at o s p = cond s (o - p) (o + p)

within : (o : ℕ) (s : Bool) (p : ℕ) → (o - p ≤ at o s p) × (at o s p ≤ o + p)
within o true p = (le_refl (o - p), omega arith)
within o false p = (omega arith, le_refl (o + p))

-- of two infinities, whose pattern is i, and of one and a number
module _ (o i : ℕ) (I : i < o) where
  ends : 0 < i → (s t : Bool) → s && not t ≡ ltb (at o s i) (at o t i)
  ends h true true = sym (le-ltb (o - i) (o - i) (le_refl (o - i)))
  ends h true false = sym (lt-ltb (o - i) (o + i) (omega arith))
  ends h false true = sym (le-ltb (o + i) (o - i) (omega arith))
  ends h false false = sym (le-ltb (o + i) (o + i) (le_refl (o + i)))

  end_first : (s t : Bool) (q : ℕ) → q < i → s ≡ ltb (at o s i) (at o t q)
  end_first true t q h = sym (lt-ltb (o - i) (at o t q) (omega (arith, (within o t q).0)))
  end_first false t q h = sym (le-ltb (o + i) (at o t q) (omega (arith, (within o t q).1)))

  end_second : (s t : Bool) (p : ℕ) → p < i → not t ≡ ltb (at o s p) (at o t i)
  end_second s true p h = sym (le-ltb (at o s p) (o - i) (omega (arith, (within o s p).0)))
  end_second s false p h = sym (lt-ltb (at o s p) (o + i) (omega (arith, (within o s p).1)))

-- p and q are in the order of a and b
abbrev Alike : ℕ → ℕ → ℕ → ℕ → Type 0
Alike a b p q = (a < b → p < q) × (b ≤ a → q ≤ p)

-- of two numbers, whose sizes are a and b and whose patterns are p and q
module _ (o a b p q : ℕ) (P : p < o) (Q : q < o) (ab : Alike a b p q) (ba : Alike b a q p) (za : Alike 0 a 0 p) (zb : Alike 0 b 0 q) where
  by_sign : (s t : Bool) → below s a t b ≡ ltb (at o s p) (at o t q)
  by_sign false false = ltb_same a b (o + p) (o + q) (λ h. omega (arith, ab.0 h)) (λ h. omega (arith, ab.1 h))
  by_sign false true = sym (le-ltb (o + p) (o - q) (omega arith))
  by_sign true false =
      ltb_same 0 (a + b) (o - p) (o + q)
      (λ h. elim (eq-zero-or-pos a) [ inl z ↦ omega (arith, zb.0 (omega arith)) | inr g ↦ omega (arith, za.0 g) ])
      (λ h. omega (arith, za.1 (omega arith), zb.1 (omega arith)))
  by_sign true true = ltb_same b a (o - p) (o - q) (λ h. omega (arith, ba.0 h)) (λ h. omega (arith, ba.1 h))

module _ (f : Format) where
  alike : (s : Bool) (m : ℕ) (e : ℤ) (t : Bool) (n : ℕ) (d : ℤ) → T (fits f (fin s m e)) → T (fits f (fin t n d))
      → Alike (m * up e * down d) (n * up d * down e) (word f m e) (word f n d)
  alike s m e t n d F G = (strict f s m e t n d F G, weak f n d m e)

  -- only 0 has the pattern 0
  some : (s : Bool) (m : ℕ) (e : ℤ) (c : ℕ) → T (fits f (fin s m e)) → 0 < c → Alike 0 (m * up e * c) 0 (word f m e)
  unfolding fits
  some s m e c F C = (
    λ h. lt_of_le_of_lt zero-le (strict f false 0 (pos 0) s m e tt F (rw (zero-mul (down e), mul-one) (first_pos (m * up e) c h))),
    λ h. le_trans (weak f m e 0 (pos 0) (le_trans (lost (m * up e) c 1 C h) zero-le)) (le_of_eq (zero_word f)),
  )

  inf_word_lem : to_bits f (inf false) ≡ inf_word f
  unfolding to_bits
  inf_word_lem = zero-add (inf_word f)

  pub place_order : (x y : Float) → T (fits f x) → T (fits f y) → T (not (is_nan x)) → lt x y ≡ ltb (place_of f x) (place_of f y)
  unfolding lt place_of is_nan is_negative without_sign
  place_order nan y F G N = absurd N
  place_order (inf s) nan F G N = sym (le-ltb (place_of f (inf s)) 0 zero-le)
  place_order (inf s) (inf t) F G N = rw inf_word_lem (ends (top f) (inf_word f) (inf_under f) (lt_of_le_of_lt zero-le (last f)) s t)
  place_order (inf s) (fin t n d) F G N = rw inf_word_lem (end_first (top f) (inf_word f) (inf_under f) s t (word f n d) (under_inf f t n d G))
  place_order (fin s m e) nan F G N = sym (le-ltb (place_of f (fin s m e)) 0 zero-le)
  place_order (fin s m e) (inf t) F G N = rw inf_word_lem (end_second (top f) (inf_word f) (inf_under f) s t (word f m e) (under_inf f s m e F))
  place_order (fin s m e) (fin t n d) F G N =
      by_sign (top f) (m * up e * down d) (n * up d * down e) (word f m e) (word f n d) (size_under f (fin s m e) F) (size_under f (fin t n d) G)
      (alike s m e t n d F G) (alike t n d s m e G F) (some s m e (down d) F (down_pos d)) (some t n d (down e) G (down_pos e)) s t

-- ---- what the proof of `place` cites

pub place_nan : (f : Format) (x : Float) → x ≡ nan → 0 ≡ place_of f x
unfolding place_of is_nan
place_nan f x h = rw h

module _ (f : Format) (x : Float) (F : T (fits f x)) (N : T (not (is_nan x))) where
  abbrev size_word : ℕ
  size_word = to_bits f (without_sign x)

  is_at : at (top f) (is_negative x) size_word ≡ place_of f x
  unfolding place_of
  is_at = sym (cond_no (is_nan x) 0 (at (top f) (is_negative x) size_word) N)

  pub place_minus : top f - 1 < to_bits f x → top f - (to_bits f x - top f) ≡ place_of f x
  place_minus h = go (is_negative x) (top f) size_word (to_bits f x) (size_under f x F) (sign_apart f x) h ∙ is_at
    where
      go : (s : Bool) (o p w : ℕ) → p < o → w ≡ cond s o 0 + p → o - 1 < w → o - (w - o) ≡ at o s p
      go true o p w l e k = omega arith
      go false o p w l e k = omega arith

  pub place_plus : to_bits f x ≤ top f - 1 → top f + to_bits f x ≡ place_of f x
  place_plus h = go (is_negative x) (top f) size_word (to_bits f x) (size_under f x F) (sign_apart f x) h ∙ is_at
    where
      go : (s : Bool) (o p w : ℕ) → p < o → w ≡ cond s o 0 + p → w ≤ o - 1 → o + w ≡ at o s p
      go true o p w l e k = omega arith
      go false o p w l e k = omega arith

  after_nan : 0 < place_of f x
  after_nan = lt_of_lt_of_le (go (top f) size_word (size_under f x F)) (le_trans (within (top f) (is_negative x) size_word).0 (le_of_eq is_at))
    where
      go : (o p : ℕ) → p < o → 0 < o - p
      go o p h = omega arith

-- ---- what the proof of `max_f64` cites

module _ (f : Format) where
  picked : (x y : Float) → T (fits f x) → T (fits f y) → maximum x y ≡ cond (ltb (place_of f x) (place_of f y)) y x
  unfolding maximum place_of is_nan
  picked nan nan F G = refl
  picked nan (inf t) F G = sym (ap (λ (b : Bool). cond b (inf t) nan) (lt-ltb 0 (place_of f (inf t)) (after_nan f (inf t) G tt)))
  picked nan (fin t n d) F G = sym (ap (λ (b : Bool). cond b (fin t n d) nan) (lt-ltb 0 (place_of f (fin t n d)) (after_nan f (fin t n d) G tt)))
  picked (inf s) y F G = ap (λ (b : Bool). cond b y (inf s)) (place_order f (inf s) y F G tt)
  picked (fin s m e) y F G = ap (λ (b : Bool). cond b y (fin s m e)) (place_order f (fin s m e) y F G tt)

  pub max_second : (x y : Float) → T (fits f x) → T (fits f y) → place_of f x < place_of f y → y ≡ maximum x y
  max_second x y F G h = sym (picked x y F G ∙ ap (λ (b : Bool). cond b y x) (lt-ltb (place_of f x) (place_of f y) h))

  pub max_first : (x y : Float) → T (fits f x) → T (fits f y) → place_of f y ≤ place_of f x → x ≡ maximum x y
  max_first x y F G h = sym (picked x y F G ∙ ap (λ (b : Bool). cond b y x) (le-ltb (place_of f x) (place_of f y) h))
