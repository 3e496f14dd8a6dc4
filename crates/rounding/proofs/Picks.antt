-- What a maximum and a clamp pick. A clamp from the tests that a function makes: each is one of the definition's own, so nothing is left but to put it in. Over no format.
use Rattle.std.proofs.Common.{◌≡◌, ℕ, ◌+◌, ◌*◌, ◌<◌, ◌≤◌, Bool, true, false, cond, ◌||◌, T, ltb, ℤ, refl, le_refl, lt_of_lt_of_le, mul-pos, le-add_left, ltb→lt, lt→ltb, ltb-false, le-ltb, lt-ltb}
use lib.Ieee.{Float, nan, inf, fin, up, down, lt, is_nan}
use lib.Ieee.Fits.{up_pos, down_pos}
use lib.Ieee.Positive.{positive, first_pos}
use Rattle.rounding.specs.Floats.{maximum, clamp}

-- ---- a NaN

pub max_nan_left : (y : Float) → maximum nan y ≡ y
unfolding maximum is_nan lt
max_nan_left y = refl

pub max_nan_right : (x : Float) → maximum x nan ≡ x
unfolding maximum is_nan lt
max_nan_right nan = refl
max_nan_right (inf s) = refl
max_nan_right (fin s m e) = refl

pub clamp_nan : (low high : Float) → clamp nan low high ≡ nan
unfolding clamp lt
clamp_nan low nan = refl
clamp_nan low (inf s) = refl
clamp_nan low (fin s m e) = refl

-- ---- from the tests

module _ (x low high : Float) where
  pub clamp_low : lt x low ≡ true → low ≡ clamp x low high
  unfolding clamp
  clamp_low h = rw h

  pub clamp_high : lt x low ≡ false → lt high x ≡ true → high ≡ clamp x low high
  unfolding clamp
  clamp_high h k = rw (h, k)

  pub clamp_else : lt x low ≡ false → lt high x ≡ false → x ≡ clamp x low high
  unfolding clamp
  clamp_else h k = rw (h, k)

-- ---- what holds of what was picked

pub not_below_itself : (x : Float) → lt x x ≡ false
unfolding lt
not_below_itself nan = refl
not_below_itself (inf true) = refl
not_below_itself (inf false) = refl
not_below_itself (fin true m e) = le-ltb (m * up e * down e) (m * up e * down e) (le_refl (m * up e * down e))
not_below_itself (fin false m e) = le-ltb (m * up e * down e) (m * up e * down e) (le_refl (m * up e * down e))

pub max_not_below : (x y : Float) → lt (maximum x y) y ≡ false
unfolding maximum
max_not_below x y = go (is_nan x) (lt x y) refl
  where
    go : (a b : Bool) → lt x y ≡ b → lt (cond (a || b) y x) y ≡ false
    go true b h = not_below_itself y
    go false true h = not_below_itself y
    go false false h = h

above_zero : (n : ℕ) (d e : ℤ) → T (ltb 0 n) → 0 < n * up d * down e
above_zero n d e p = mul-pos (mul-pos (ltb→lt 0 n p) (up_pos d)) (down_pos e)

pub max_positive : (x y : Float) → T (positive y) → (x ≡ inf false → ⊥) → T (positive (maximum x y))
unfolding maximum is_nan lt
max_positive x nan p h = absurd p
max_positive x (inf t) p h = absurd p
max_positive x (fin true n d) p h = absurd p
max_positive nan (fin false n d) p h = p
max_positive (inf true) (fin false n d) p h = p
max_positive (inf false) (fin false n d) p h = absurd (h refl)
max_positive (fin true m e) (fin false n d) p h = rw (lt-ltb 0 (m * up e * down d + n * up d * down e) (lt_of_lt_of_le (above_zero n d e p) (le-add_left (n * up d * down e) (m * up e * down d)))) p
max_positive (fin false m e) (fin false n d) p h = by (ltb (m * up e * down d) (n * up d * down e)) (ltb-false (m * up e * down d) (n * up d * down e))
  where
    by : (b : Bool) → (b ≡ false → n * up d * down e ≤ m * up e * down d) → T (positive (cond b (fin false n d) (fin false m e)))
    by true k = p
    by false k = lt→ltb 0 m (first_pos m (up e) (first_pos (m * up e) (down d) (lt_of_lt_of_le (above_zero n d e p) (k refl))))

pub clamp_within : (x low high : Float) → lt high low ≡ false → (lt (clamp x low high) low ≡ false) × (lt high (clamp x low high) ≡ false)
unfolding clamp
clamp_within x low high order = go (lt x low) (lt high x) refl refl
  where
    go : (a b : Bool) → lt x low ≡ a → lt high x ≡ b → (lt (cond a low (cond b high x)) low ≡ false) × (lt high (cond a low (cond b high x)) ≡ false)
    go true b h k = (not_below_itself low, order)
    go false true h k = (order, not_below_itself high)
    go false false h k = (h, k)
