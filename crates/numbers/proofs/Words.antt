-- Numbers of two digits to any base m: sums, differences, the order, and products by columns. Assumes nothing.
-- The base is a variable, since `omega` reads no number of more than 38 digits: the proofs apply these at 2 ^ 64.
use mathlib.Core.Path.{◌≡◌, refl, sym, ap, ◌∙◌}
use Prim.Native.Nat.{ℕ, zero, suc, ◌+◌, ◌-◌, ◌*◌, ◌/◌, ◌%◌, ◌^◌, ◌<◌, ◌≤◌}
use native.Mathlib.Nat.{mul-le-mul, mul-le-mul_left, mul-le-mul_right, mul-suc, mul-lt-mul_of_pos_right, le_of_lt, lt_of_mul-lt-mul_right, lt_of_le_of_lt, div-add-mod', le_of_suc-le-suc}
use native.Mathlib.Numerals.{add-one}
use native.Mathlib.Omega.{arith}
use lib.Arith.{digits_div, digits_mod}
use lib.Dec.{ltb}
use borrow.Author.Tests.{lt-ltb, le-ltb, ltb-true, ltb-false}
use Rattle.numbers.specs.Exacts.{size_of, wide_of}
use borrow.Table.Steps.{cases}

-- two words are the words of a number
pub words : (n h l : ℕ) → l < 2 ^ 64 → n ≡ h * 2 ^ 64 + l → record { hi = h; lo = l } ≡ wide_of n
words n h l p e = rw (e, digits_div h p, digits_mod h p)

-- the number of a number's words
pub size_wide : (n : ℕ) → size_of (wide_of n) ≡ n
size_wide n = div-add-mod' n (2 ^ 64)

module _ (m ah al bh bl : ℕ) where
  pub plus_plain : ah * m + al + (bh * m + bl) ≡ (ah + bh) * m + (al + bl)
  plus_plain = omega arith

  -- with a carry, where m - 1 - bl < al
  pub plus_carry : bl < m → m - 1 - bl < al → ah * m + al + (bh * m + bl) ≡ (ah + bh + 1) * m + (al - (m - 1 - bl) - 1)
  plus_carry p q = omega arith

  pub plus_hi : ah * m + al + (bh * m + bl) < m * m → ah + bh < m
  plus_hi h = lt_of_mul-lt-mul_right m (lt_of_le_of_lt le h)
    where
      le : (ah + bh) * m ≤ ah * m + al + (bh * m + bl)
      le = omega arith

  pub plus_hi_carry : bl < m → m - 1 - bl < al → ah * m + al + (bh * m + bl) < m * m → ah + bh + 1 < m
  plus_hi_carry p q h = lt_of_mul-lt-mul_right m (lt_of_le_of_lt le h)
    where
      le : (ah + bh + 1) * m ≤ ah * m + al + (bh * m + bl)
      le = omega arith

  pub first_below : ah < bh → al < m → ah * m + al < bh * m + bl
  first_below h p = omega (arith, mul-le-mul_right m h)

  -- the first digits of two numbers in order are in order, and apart where the second digits are the other way round
  pub first_le : al < m → bh * m + bl ≤ ah * m + al → bh ≤ ah
  first_le p h = le_of_suc-le-suc (rw add-one at (lt_of_mul-lt-mul_right m lt))
    where
      lt : bh * m < (ah + 1) * m
      lt = omega arith

  pub first_lt : al < bl → bh * m + bl ≤ ah * m + al → bh < ah
  first_lt p h = lt_of_mul-lt-mul_right m lt
    where
      lt : bh * m < ah * m
      lt = omega arith

  pub less_plain : (k l : ℕ) → ah ≡ bh + k → al ≡ bl + l → ah * m + al - (bh * m + bl) ≡ k * m + l
  less_plain k l e f = omega (arith, ap (λ (x : ℕ). x * m) e)

  pub less_borrow : (k l : ℕ) → ah ≡ bh + k + 1 → al + m ≡ bl + l → ah * m + al - (bh * m + bl) ≡ k * m + l
  less_borrow k l e f = omega (arith, ap (λ (x : ℕ). x * m) e)

-- the parts of a difference at 2 ^ 64
pub apart_one : {a b : ℕ} → b < a → a ≡ b + (a - b - 1) + 1
apart_one h = omega arith

module _ {al bl : ℕ} (h : al < bl) (hb : bl < 2 ^ 64) where
  pub borrowed : al + (18446744073709551615 - bl) + 1 < 2 ^ 64
  borrowed = omega arith

  pub borrowed_is : al + 2 ^ 64 ≡ bl + (al + (18446744073709551615 - bl) + 1)
  borrowed_is = omega arith

-- ---- tests

-- by the order of two numbers
pub by_order {ℓ} : {X : Type ℓ} (a b : ℕ) → (a < b → X) → (b ≤ a → X) → X
by_order a b f g = cases (ltb a b) (λ e. f (ltb-true a b e)) (λ e. g (ltb-false a b e))

pub ltb_same : (a b c d : ℕ) → (a < b → c < d) → (b ≤ a → d ≤ c) → ltb a b ≡ ltb c d
ltb_same a b c d f g = by_order a b (λ h. lt-ltb a b h ∙ sym (lt-ltb c d (f h))) (λ h. le-ltb a b h ∙ sym (le-ltb c d (g h)))

-- the first digits decide, and where they are the same the second
module _ (m ah al bh bl : ℕ) where
  pub first_decides : al < m → bl < m → ((ah ≡ bh) → ⊥) → ltb ah bh ≡ ltb (ah * m + al) (bh * m + bl)
  first_decides p q f = ltb_same ah bh (ah * m + al) (bh * m + bl) (λ h. first_below m ah al bh bl h p) (λ h. le_of_lt (first_below m bh bl ah al (omega arith) q))

  pub second_decides : ah ≡ bh → ltb al bl ≡ ltb (ah * m + al) (bh * m + bl)
  second_decides e = rw e (ltb_same al bl (bh * m + al) (bh * m + bl) (λ h. omega arith) (λ h. omega arith))

-- the product of two numbers that fit 32 bits fits 64
pub product_fits : (a b : ℕ) → a < 2 ^ 32 → b < 2 ^ 32 → a * b < 2 ^ 64
product_fits a b ha hb = lt_of_le_of_lt (mul-le-mul_left a (le_of_lt hb)) (mul-lt-mul_of_pos_right ha (omega arith))

-- a factor of nothing is nothing, where the other is not
pub factor_zero : (a b : ℕ) → 0 < b → a * b ≡ 0 → a ≡ 0
factor_zero zero b h e = refl
factor_zero (suc a) b h e = let z : ⊥ = omega arith in absurd z

-- one more of i parts of n each is within t of them
pub one_more : (n i t : ℕ) → i < t → n * i + n ≤ n * t
one_more n i t h = rw mul-suc at (mul-le-mul_left n h)

-- ---- the product, by columns

-- by the two digits of each factor, given each column's carry and digit
columns : (P a₀ a₁ b₀ b₁ q₀ r₀ q r q₁ r₁ : ℕ) → a₀ * b₀ ≡ q₀ * P + r₀ → a₁ * b₀ + q₀ ≡ q * P + r → r + a₀ * b₁ ≡ q₁ * P + r₁ → (a₁ * P + a₀) * (b₁ * P + b₀) ≡ (a₁ * b₁ + q + q₁) * (P * P) + (r₁ * P + r₀)
columns P a₀ a₁ b₀ b₁ q₀ r₀ q r q₁ r₁ e₀ e e₁ = omega (arith, ap (λ (x : ℕ). x * P) e, ap (λ (x : ℕ). x * P) e₁)

module _ (u v : ℕ) where
  abbrev P : ℕ
  P = 4294967296

  -- as the program computes them
  abbrev pub w0 : ℕ
  w0 = u % P * (v % P)

  abbrev pub t : ℕ
  t = u / P * (v % P) + w0 / P

  abbrev pub w1 : ℕ
  w1 = t % P + u % P * (v / P)

  abbrev pub high : ℕ
  high = u / P * (v / P) + t / P + w1 / P

  abbrev pub low : ℕ
  low = w1 % P * P + w0 % P

  pub product_is : u * v ≡ high * 2 ^ 64 + low
  product_is =
      (λ i. sym (div-add-mod' u P) i * sym (div-add-mod' v P) i)
      ∙ columns P (u % P) (u / P) (v % P) (v / P) (w0 / P) (w0 % P) (t / P) (t % P) (w1 / P) (w1 % P) (sym (div-add-mod' w0 P)) (sym (div-add-mod' t P)) (sym (div-add-mod' w1 P))

  module _ (hu : u < 2 ^ 64) (hv : v < 2 ^ 64) where
    square : {x y : ℕ} → x ≤ 4294967295 → y ≤ 4294967295 → x * y ≤ 18446744065119617025
    square hx hy = mul-le-mul hx hy

    pub b00 : w0 ≤ 18446744065119617025
    b00 = square (omega arith) (omega arith)

    pub b10 : u / P * (v % P) ≤ 18446744065119617025
    b10 = square (omega arith) (omega arith)

    pub b01 : u % P * (v / P) ≤ 18446744065119617025
    b01 = square (omega arith) (omega arith)

    pub b11 : u / P * (v / P) ≤ 18446744065119617025
    b11 = square (omega arith) (omega arith)

    pub t_small : t < 2 ^ 64
    t_small = omega (arith, b00, b10)

    pub high_part : u / P * (v / P) + t / P < 2 ^ 64
    high_part = omega (arith, b11, t_small)

    pub w1_small : w1 < 2 ^ 64
    w1_small = omega (arith, b01)

    pub high_small : high < 2 ^ 64
    high_small = omega (arith, b11, t_small, w1_small)

    pub low_small : low < 2 ^ 64
    low_small = omega arith
