-- Which decimal reads back, one number of places after the other; and digits, from the last on.
use mathlib.Core.Path.{◌≡◌, refl, sym, ap, ◌∙◌}
use mathlib.Core.Bool.{Bool, true, false, cond}
use mathlib.Core.List.{[], ◌∷◌, ◌++◌, append-nil, append_assoc}
use Prim.Native.Nat.{ℕ, zero, suc, ◌+◌, ◌-◌, ◌/◌, ◌%◌, ◌^◌, ◌≤◌, ◌<◌}
use native.Mathlib.Nat.{pow-suc}
use native.Mathlib.Omega.{arith}
use Rattle.std.proofs.Common.{Option, Some, None, MatchOption}
use Rattle.std.specs.Option.{unwrap_or}
use borrow.Author.Tests.{lt-ltb, le-ltb, ltb-true, eq-eqb, ne_eqb, eqb-true}
use lib.Dec.{ltb, eqb}
use lib.IntN.{pos}
use lib.Ieee.{Float, binary32, binary64, of_bits, mul, of_int, to_unsigned}
use lib.ListN.{length, length-append}
use Rattle.numbers.proofs.Laws.{and_left, and_right, by_order}
use Rattle.rounding.specs.Floats.{round_away}
use Rattle.text.specs.declared.page.Page.{Page}
use Rattle.text.specs.Texts.{decimal}
use Rattle.text.specs.Pages.{Appends}
use Rattle.text.proofs.Laws.{append_nothing}
use Rattle.spelling.specs.Words.{quotient}
use Rattle.form_text.specs.TempoTexts.{digits_for, reads_back, places_from, digit_byte, last_digits, point_text, bits_text, tempo_text}

pub some_power : (k : ℕ) → 0 < 10 ^ k
some_power zero = omega arith
some_power (suc k) = rw (pow-suc 10 k) (omega (arith, some_power k))

-- ---- which decimal

pub digits_is : (bits places : ℕ) {r scale : ℕ} {x : Float} → r ≡ to_unsigned 64 (round_away (mul binary64 x (of_int binary64 (pos scale))))
    → x ≡ of_bits binary32 bits → scale ≡ 10 ^ places → r ≡ digits_for bits places
unfolding digits_for
digits_is bits places {r} {scale} h e f =
    h ∙ ap (λ (y : Float). to_unsigned 64 (round_away (mul binary64 y (of_int binary64 (pos scale))))) e
    ∙ ap (λ (k : ℕ). to_unsigned 64 (round_away (mul binary64 (of_bits binary32 bits) (of_int binary64 (pos k))))) f

module _ (bits places : ℕ) {digits : ℕ} (e : digits ≡ digits_for bits places) where
  pub not_back : 16777216 ≤ digits → false ≡ reads_back bits places
  unfolding reads_back
  not_back h = simp (le-ltb (digits_for bits places) 16777216 (omega arith))

  pub is_back : digits < 16777216 → {word : ℕ} → word ≡ quotient digits places → eqb word bits ≡ reads_back bits places
  unfolding reads_back
  is_back h w = simp (lt-ltb (digits_for bits places) 16777216 (omega arith)) (ap (λ (k : ℕ). eqb k bits) (w ∙ ap (λ (k : ℕ). quotient k places) e))

module _ (bits places : ℕ) (e : reads_back bits places ≡ true) where
  pub back_small : digits_for bits places < 16777216
  unfolding reads_back
  back_small = ltb-true (digits_for bits places) 16777216 (and_left (ltb (digits_for bits places) 16777216) (eqb (quotient (digits_for bits places) places) bits) e)

  pub back_same : quotient (digits_for bits places) places ≡ bits
  unfolding reads_back
  back_same =
      eqb-true (quotient (digits_for bits places) places) bits (and_right (ltb (digits_for bits places) 16777216) (eqb (quotient (digits_for bits places) places) bits) e)

module _ (bits : ℕ) where
  place_found : (p left : ℕ) → reads_back bits p ≡ true → places_from bits p (suc left) ≡ p
  unfolding places_from
  place_found p left e = simp e

  place_next : (p left : ℕ) → reads_back bits p ≡ false → places_from bits p (suc left) ≡ places_from bits (p + 1) left
  unfolding places_from
  place_next p left e = simp e

  -- the first of some places that reads back, and where none does
  first_at : (p left i : ℕ) → p ≤ i → i < p + left → reads_back bits i ≡ true → ((k : ℕ) → p ≤ k → k < i → reads_back bits k ≡ false) → places_from bits p left ≡ i
  first_at p zero i h l e none = let z : ⊥ = omega arith in absurd z
  first_at p (suc left) i h l e none =
      by_order p i
      (λ m. place_next p left (none p (omega arith) m) ∙ first_at (p + 1) left i (omega arith) (omega arith) e (λ k a b. none k (omega arith) b))
      (λ m. let same : p ≡ i = omega arith in place_found p left (rw same e) ∙ same)

  none_at : (p left : ℕ) → ((k : ℕ) → p ≤ k → k < p + left → reads_back bits k ≡ false) → places_from bits p left ≡ p + left
  unfolding places_from
  none_at p zero none = omega arith
  none_at p (suc left) none = place_next p left (none p (omega arith) (omega arith)) ∙ none_at (p + 1) left (λ k a b. none k (omega arith) (omega arith)) ∙ omega arith

  -- what a search of the five places finds
  pub found : (r : Option ℕ)
      → MatchOption r ((k : ℕ) → 0 ≤ k → k < 5 → reads_back bits k ≡ false) (λ i. (0 ≤ i) × (i < 5) × (reads_back bits i ≡ true) × ((k : ℕ) → 0 ≤ k → k < i → reads_back bits k ≡ false))
      → unwrap_or r 5 ≡ places_from bits 0 5
  found None none = sym (none_at 0 5 (λ k a b. none k a (omega arith)))
  found (Some i) f = sym (first_at 0 5 i f.0 (omega arith) f.2 f.3)

  -- a place that is not behind the last reads back
  pub back_at : (p left : ℕ) → places_from bits p left < p + left → reads_back bits (places_from bits p left) ≡ true
  unfolding places_from
  back_at p zero h = let z : ⊥ = omega arith in absurd z
  back_at p (suc left) h = go (reads_back bits p) refl (λ k. back_at (p + 1) left k) h
    where
      go : (t : Bool) → reads_back bits p ≡ t → (places_from bits (p + 1) left < p + 1 + left → reads_back bits (places_from bits (p + 1) left) ≡ true)
          → cond t p (places_from bits (p + 1) left) < p + suc left → reads_back bits (cond t p (places_from bits (p + 1) left)) ≡ true
      go true e r k = e
      go false e r k = r (omega arith)

  pub few_digits : (p : ℕ) → p ≡ places_from bits 0 5 → p < 5 → digits_for bits p < 16777216
  few_digits p e h =
      let k : places_from bits 0 5 < 0 + 5 = omega arith in
      rw e (back_small bits (places_from bits 0 5) (back_at 0 5 k))

-- ---- digits

module _ (base n : ℕ) where
  pub no_digits : (page : Page) → Appends (last_digits base 0 n) page page
  unfolding last_digits
  no_digits = append_nothing

  pub more_digits : (count : ℕ) → 0 < count → last_digits base (count - 1) (n / base) ++ (digit_byte (n % base) ∷ []) ≡ last_digits base count n
  unfolding last_digits
  more_digits zero h = let z : ⊥ = omega arith in absurd z
  more_digits (suc k) h = let j : suc k - 1 ≡ k = omega arith in ap (λ (i : ℕ). last_digits base i (n / base) ++ (digit_byte (n % base) ∷ [])) j

pub digits_length : (base count n : ℕ) → length (last_digits base count n) ≡ count
unfolding last_digits
digits_length base zero n = refl
digits_length base (suc count) n = length-append (last_digits base count (n / base)) (digit_byte (n % base) ∷ []) ∙ omega (arith, digits_length base count (n / base))

-- ---- texts of a tempo

module _ (digits places : ℕ) {scale : ℕ} (e : scale ≡ 10 ^ places) where
  pub point_whole : places ≡ 0 → decimal (digits / scale) ≡ point_text digits places
  unfolding point_text
  point_whole z = simp (eq-eqb places 0 z, append-nil) (ap (λ (k : ℕ). decimal (digits / k)) e)

  pub point_parts : (places ≡ 0 → ⊥) → (decimal (digits / scale) ++ (46 ∷ [])) ++ last_digits 10 places digits ≡ point_text digits places
  unfolding point_text
  point_parts z = simp (ne_eqb places 0 z, append_assoc) (ap (λ (k : ℕ). decimal (digits / k) ++ (46 ∷ last_digits 10 places digits)) e)

module _ (bits : ℕ) {places : ℕ} (e : places ≡ places_from bits 0 5) where
  pub tempo_decimal : places < 5 → {digits : ℕ} → digits ≡ digits_for bits places → point_text digits places ≡ tempo_text bits
  unfolding tempo_text
  tempo_decimal h {digits} d =
      simp (lt-ltb (places_from bits 0 5) 5 (omega arith))
      (ap (λ (k : ℕ). point_text k places) d ∙ ap (λ (k : ℕ). point_text (digits_for bits k) k) e)

  pub tempo_bits_lem : 5 ≤ places → (48 ∷ 120 ∷ []) ++ last_digits 16 8 bits ≡ tempo_text bits
  unfolding tempo_text bits_text
  tempo_bits_lem h = simp (le-ltb (places_from bits 0 5) 5 (omega arith))
