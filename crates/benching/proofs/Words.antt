-- What the bits of words are as numbers, and the sequence, two numbers a point. Assumes nothing.
use Rattle.std.proofs.Common.{◌≡◌, ℕ, suc, ◌+◌, ◌-◌, ◌*◌, ◌/◌, ◌%◌, ◌^◌, ◌<◌, min, Bool, true, false, cond, [], ◌∷◌, ℤ, nat_abs, sym, refl, ap, ◌∙◌, add-one, arith}
use native.Mathlib.Nat.{add-mul-mod_self_right}
use lib.Bits.{bit_or, bit_xor, or_shifted}
use mir.Val.{bool_byte}
use Rattle.numbers.specs.Signs.{is_neg}
use Rattle.benching.specs.Words.{next_of, random, place_of, fraction_word}
use Rattle.benching.specs.Maps.{denominator_of, meter_point, spread_at}

-- inputs that come round lie where those before them lay
pub round : (k : ℕ) → (4096 + 5063 * (k % 8192)) % 8192 ≡ place_of k
round k = sym (add-mul-mod_self_right (4096 + 5063 * (k % 8192)) (5063 * (k / 8192)) 8192) ∙ ap (λ (x : ℕ). x % 8192) whole
  where
    whole : 4096 + 5063 * (k % 8192) + 5063 * (k / 8192) * 8192 ≡ 4096 + 5063 * k
    whole = omega arith

-- a product that stops at the end of 64 bits is past the end of 32 still, when it is divided
pub share : (span k at product word : ℕ) → at ≡ place_of k → product ≡ min (at * span) (2 ^ 64 - 1) → word ≡ min (product / 8192) (2 ^ 32 - 1)
    → word ∷ [] ≡ spread_at span k
share span k at product word a p w = ap (λ (x : ℕ). x ∷ []) (stopped ∙ ap (λ (x : ℕ). min (x * span / 8192) (2 ^ 32 - 1)) a)
  where
    stopped : word ≡ min (at * span / 8192) (2 ^ 32 - 1)
    stopped = omega arith

-- a word that is turned by five bits: its two parts in the other order, which share no bit
pub turned : (sum : ℕ) → sum < 2 ^ 64 → bit_or (sum * 2 ^ 5 % 2 ^ 64) (sum / 2 ^ 59) ≡ sum % 2 ^ 59 * 2 ^ 5 + sum / 2 ^ 59
turned sum h = ap (λ (x : ℕ). bit_or x (sum / 2 ^ 59)) low ∙ or_shifted (sum % 2 ^ 59) 5 (sum / 2 ^ 59) (omega arith)
  where
    low : sum * 2 ^ 5 % 2 ^ 64 ≡ sum % 2 ^ 59 * 2 ^ 5
    low = omega arith

sign_bit : (b : Bool) → bool_byte b * 2 ^ 63 % 2 ^ 64 ≡ cond b (2 ^ 63) 0
sign_bit true = refl
sign_bit false = refl

-- neither a sign as the highest bit nor a denominator in the upper half passes the end of a word
pub word : (num : ℤ) (den size : ℕ) (neg : Bool) → neg ≡ is_neg num → size ≡ nat_abs num → den < 2 ^ 32
    → bit_xor (bit_xor size (bool_byte neg * 2 ^ 63 % 2 ^ 64)) (den * 2 ^ 32 % 2 ^ 64) ≡ fraction_word num den
word num den size neg en es h = rw (sign_bit neg, upper, en, es)
  where
    upper : den * 2 ^ 32 % 2 ^ 64 ≡ den * 2 ^ 32
    upper = omega arith

-- the first number of the sequence
pub begins : 0x2545F4914F6CDD1D ≡ random 0
unfolding random
begins = refl

-- each point takes two numbers of the sequence
module _ (k x : ℕ) (e : x ≡ random (2 * k)) where
  one_on : next_of x ≡ random (2 * k + 1)
  unfolding random
  one_on = ap next_of e ∙ ap random (sym (add-one (2 * k)))

  pub two_on : next_of (next_of x) ≡ random (2 * (k + 1))
  unfolding random
  two_on = ap next_of (ap next_of e) ∙ ap random after
    where
      after : suc (suc (2 * k)) ≡ 2 * (k + 1)
      after = omega arith

  -- the three words that a point of the meter map makes of them
  pub meter_words_lem : (s den : ℕ) → s ≡ next_of x → den ≡ denominator_of s → (4 * k) ∷ (x % 8 + 1) ∷ den ∷ [] ≡ meter_point k
  meter_words_lem s den es ed =
      ap (λ (y : ℕ). (4 * k) ∷ (y % 8 + 1) ∷ den ∷ []) e ∙ ap (λ (d : ℕ). (4 * k) ∷ (random (2 * k) % 8 + 1) ∷ d ∷ []) (ed ∙ ap denominator_of (es ∙ one_on))
