-- The order of beats is that of their exact values: total, and kept by adding one beat to both and by a factor above 0.
use Rattle.std.proofs.Common.{◌≡◌, ℕ, ◌*◌, ◌<◌, Bool, true, ℤ, pos, ◌+ℤ◌, ◌-ℤ◌, ◌*ℤ◌, sym, ap, ◌∙◌, subst, mul_assoc, mul_comm, mul-pos, mul_left_comm}
use lib.Signed.{lt_z}
use lib.Ieee.Bits.{is_true}
use Rattle.std.specs.declared.cmp.Ordering.{Ordering}
use Rattle.std.specs.Ordering.{is_lt}
use Rattle.std.specs.declared.cmp.Ordering.TheVariants.{Equal}
use Rattle.numbers.specs.Answers.{accepted}
use Rattle.numbers.specs.Exacts.{order_of}
use Rattle.numbers.proofs.Laws.{holds, gap_times, lt_trans, sums_apart, less_is, equal_only, same_equal, turned, exchanged, order_times}
use Rattle.beats.specs.declared.Beat.{Beat}
use Rattle.beats.specs.Beats.{is_beat}
use Rattle.beats.specs.Sums.{add_beats, mul_beat, order_of_beats, below_beat}
use Rattle.beats.specs.Values.{Worth}
use Rattle.beats.proofs.Lowest.{same_beat}
use Rattle.beats.proofs.Refusing.{beat_above, beat_lowest}
use Rattle.beats.proofs.Values.{cross, own_value, own_value_left, sum_value, scaled_value, accepted_beat}

-- ---- a total order

pub below_is : (a b : Beat) → is_lt (order_of_beats a b) ≡ below_beat a b
below_is a b = less_is (a.num *ℤ pos b.den) (b.num *ℤ pos a.den)

pub order_same : (a : Beat) → order_of_beats a a ≡ Equal
order_same a = same_equal (a.num *ℤ pos a.den)

pub order_exchanged : (a b : Beat) → order_of_beats b a ≡ turned (order_of_beats a b)
order_exchanged a b = exchanged (a.num *ℤ pos b.den) (b.num *ℤ pos a.den)

-- equal beats are the same two numbers
pub order_equal : (a b : Beat) → is_beat a ≡ true → is_beat b ≡ true → order_of_beats a b ≡ Equal → a ≡ b
order_equal a b p q e =
    same_beat a b (beat_above a p) (beat_above b q) (beat_lowest a p) (beat_lowest b q)
    (equal_only (a.num *ℤ pos b.den) (b.num *ℤ pos a.den) e)

-- ---- the order of the values

-- over one denominator the order is that of the numerators
pub order_values : (a b : Beat) (x y : ℤ) (d : ℕ) → 0 < a.den → 0 < b.den → 0 < d → Worth a x d → Worth b y d → order_of_beats a b ≡ order_of (x -ℤ y)
order_values a b x y d p q h v w =
    sym (order_times (a.num *ℤ pos b.den -ℤ b.num *ℤ pos a.den) d h)
    ∙ ap order_of (cross ◌-ℤ◌ gap_times a b x y d v w)
    ∙ order_times (x -ℤ y) (a.den * b.den) (mul-pos p q)

-- three numbers over the product of their denominators
module _ (a b c : Beat) where
  abbrev all : ℕ
  all = a.den * b.den * c.den

  abbrev first : ℤ
  first = a.num *ℤ pos (b.den * c.den)

  abbrev second : ℤ
  second = b.num *ℤ pos (a.den * c.den)

  abbrev third : ℤ
  third = c.num *ℤ pos (a.den * b.den)

  first_value : Worth a first all
  first_value = subst (λ (k : ℕ). Worth a first k) (sym (mul_assoc a.den b.den c.den)) (own_value a (b.den * c.den))

  second_value : Worth b second all
  second_value = subst (λ (k : ℕ). Worth b second k) (mul_left_comm b.den a.den c.den ∙ sym (mul_assoc a.den b.den c.den)) (own_value b (a.den * c.den))

  third_value : Worth c third all
  third_value = subst (λ (k : ℕ). Worth c third k) (mul_comm c.den (a.den * b.den)) (own_value c (a.den * b.den))

pub below_trans : (a b c : Beat) → 0 < a.den → 0 < b.den → 0 < c.den → below_beat a b ≡ true → below_beat b c ≡ true → below_beat a c ≡ true
below_trans a b c p q r s t =
    let h : 0 < all a b c = mul-pos (mul-pos p q) r in
    let x = first a b c in
    let y = second a b c in
    let z = third a b c in
    by (order_values a c x z (all a b c) p r h (first_value a b c) (third_value a b c)) (below_is a c) (less_is x z)
    ∙ is_true (lt_z x z) (lt_trans x y z
    (holds (lt_z x y) (sym (by (order_values a b x y (all a b c) p q h (first_value a b c) (second_value a b c)) (below_is a b) (less_is x y)) ∙ s))
    (holds (lt_z y z) (sym (by (order_values b c y z (all a b c) q r h (second_value a b c) (third_value a b c)) (below_is b c) (less_is y z)) ∙ t)))
  where
    by : {o u : Ordering} {s t : Bool} → o ≡ u → is_lt o ≡ s → is_lt u ≡ t → s ≡ t
    by e f g = sym f ∙ ap is_lt e ∙ g

-- ---- sums and multiples keep the order

-- a and b, each with c added, stand as a and b do
pub sum_order : (a b c x y : Beat) → 0 < a.den → 0 < b.den → 0 < c.den → add_beats a c ≡ accepted x → add_beats b c ≡ accepted y → order_of_beats x y ≡ order_of_beats a b
sum_order a b c x y p q r e f =
    let h : 0 < all a b c = mul-pos (mul-pos p q) r in
    let v = first_value a b c in
    let w = second_value a b c in
    let u = third_value a b c in
    order_values x y (first a b c +ℤ third a b c) (second a b c +ℤ third a b c) (all a b c) (beat_above x (accepted_beat _ _ x e)) (beat_above y (accepted_beat _ _ y f)) h
    (sum_value a c x (first a b c) (third a b c) (all a b c) p r v u e)
    (sum_value b c y (second a b c) (third a b c) (all a b c) q r w u f)
    ∙ ap order_of (sums_apart (first a b c) (second a b c) (third a b c))
    ∙ sym (order_values a b (first a b c) (second a b c) (all a b c) p q h v w)

-- a and b, each scaled by n above 0, stand as a and b do
pub scale_order : (a b x y : Beat) (n : ℕ) → 0 < n → 0 < a.den → 0 < b.den → mul_beat a (pos n) 1 ≡ accepted x → mul_beat b (pos n) 1 ≡ accepted y → order_of_beats x y ≡ order_of_beats a b
scale_order a b x y n h p q e f =
    let d = a.den * b.den in
    let v : Worth a (a.num *ℤ pos b.den) d = own_value a b.den in
    let w : Worth b (b.num *ℤ pos a.den) d = own_value_left b a.den in
    order_values x y (a.num *ℤ pos b.den *ℤ pos n) (b.num *ℤ pos a.den *ℤ pos n) d (beat_above x (accepted_beat _ _ x e)) (beat_above y (accepted_beat _ _ y f)) (mul-pos p q)
    (scaled_value a x (a.num *ℤ pos b.den) (pos n) d p v e)
    (scaled_value b y (b.num *ℤ pos a.den) (pos n) d q w f)
    ∙ ap order_of (sym (gap_times (a.num *ℤ pos b.den) (b.num *ℤ pos a.den) n))
    ∙ order_times (a.num *ℤ pos b.den -ℤ b.num *ℤ pos a.den) n h
