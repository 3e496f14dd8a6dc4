-- Words that were read are those of the definitions, and a walk over places is told by the places that are left.
use Rattle.std.proofs.Common.{◌≡◌, refl, sym, ap, ◌∙◌, Bool, false, List, [], ◌∷◌, Some, None, ℕ, zero, suc, ◌+◌, ◌-◌, ◌*◌, ◌<◌, ℤ, eqb, length, get_or, arith}
use borrow.Author.Tests.{eq-eqb, ne_eqb}
use Rattle.numbers.specs.Bits.{signed_of}
use Rattle.beats.specs.Beats.{is_beat}
use Rattle.score.specs.Bytes.{word_at, number_at, each}
use Rattle.score.specs.Format.{edition, meter_count, meter_offset, tempo_count, tempo_offset, total}
use Rattle.score.specs.Format.{laid_out_by, laid_out, pickup_good, pickup_of, pickup_den, pickup_low, pickup_high, pickup_num}

-- ---- words and numbers

pub word_is : (b : List ℕ) (p x y z w : ℕ) → x ≡ get_or b p 0 → y ≡ get_or b (p + 1) 0 → z ≡ get_or b (p + 2) 0 → w ≡ get_or b (p + 3) 0
    → x + y * 256 + z * 65536 + w * 16777216 ≡ word_at b p
unfolding word_at
word_is b p x y z w e f g h = rw (e, f, g, h)

pub number_is : (b : List ℕ) (p low high : ℕ) → low ≡ word_at b p → high ≡ word_at b (p + 4) → signed_of (low + high * 4294967296) ≡ number_at b p
unfolding number_at
number_is b p low high e f = rw (e, f)

-- ---- the header

pub laid_is : (b : List ℕ) {e m a t c n : ℕ} {r : Bool} → r ≡ laid_out_by e m a t c n (length b)
    → e ≡ edition b → m ≡ meter_count b → a ≡ meter_offset b → t ≡ tempo_count b → c ≡ tempo_offset b → n ≡ total b → r ≡ laid_out b
unfolding laid_out
laid_is b q h₀ h₁ h₂ h₃ h₄ h₅ = q ∙ rw (h₀, h₁, h₂, h₃, h₄, h₅)

module _ (b : List ℕ) (den : ℕ) (e : den ≡ pickup_den b) where
  pub none_low : den ≡ 0 → (low : ℕ) → low ≡ pickup_low b → (low ≡ 0 → ⊥) → false ≡ pickup_good b
  unfolding pickup_good
  none_low z low f n = simp (eq-eqb (pickup_den b) 0 (sym e ∙ z), ne_eqb (pickup_low b) 0 (λ q. n (f ∙ q)))

  pub none_high : den ≡ 0 → (low high : ℕ) → low ≡ pickup_low b → low ≡ 0 → high ≡ pickup_high b → eqb high 0 ≡ pickup_good b
  unfolding pickup_good
  none_high z low high f y g = simp (eq-eqb (pickup_den b) 0 (sym e ∙ z), eq-eqb (pickup_low b) 0 (sym f ∙ y), g)

  pub some_good : (den ≡ 0 → ⊥) → (num : ℤ) → num ≡ pickup_num b → is_beat (record { num = num; den = den }) ≡ pickup_good b
  unfolding pickup_good
  some_good n num f = simp (ne_eqb (pickup_den b) 0 (λ q. n (e ∙ q)), e, f)

  pub none_is : den ≡ 0 → None ≡ pickup_of b
  unfolding pickup_of
  none_is z = simp (eq-eqb (pickup_den b) 0 (sym e ∙ z))

  pub some_is : (den ≡ 0 → ⊥) → (num : ℤ) → num ≡ pickup_num b → Some (record { num = num; den = den }) ≡ pickup_of b
  unfolding pickup_of
  some_is n num f = simp (ne_eqb (pickup_den b) 0 (λ q. n (e ∙ q)), e, f)

-- ---- walks over the places that are left

module _ {A : Type 0} (read : ℕ → A) where
  next_each : (p step m : ℕ) → 0 < m → each read p step m ≡ read p ∷ each read (p + step) step (m - 1)
  unfolding each
  next_each p step zero h = let z : ⊥ = omega arith in absurd z
  next_each p step (suc k) h = let e : k ≡ suc k - 1 = omega arith in ap (λ (j : ℕ). read p ∷ each read (p + step) step j) e

  -- k of n places are behind
  pub each_step : (p step n k : ℕ) (v : A) → k < n → v ≡ read p → each read p step (n - k) ≡ v ∷ each read (p + step) step (n - (k + 1))
  each_step p step n k v h e =
      let less : n - k - 1 ≡ n - (k + 1) = omega arith in
      next_each p step (n - k) (omega arith)
      ∙ ap (λ (x : A). x ∷ each read (p + step) step (n - k - 1)) (sym e)
      ∙ ap (λ (j : ℕ). v ∷ each read (p + step) step j) less

  pub no_each : (p step m : ℕ) → m ≡ 0 → each read p step m ≡ []
  unfolding each
  no_each p step m e = ap (each read p step) e

  pub each_length : (p step m : ℕ) → length (each read p step m) ≡ m
  unfolding each
  each_length p step zero = refl
  each_length p step (suc m) = ap suc (each_length (p + step) step m)
