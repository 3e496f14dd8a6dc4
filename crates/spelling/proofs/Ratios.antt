-- A number's and a beat's text, part by part: the sign, the numerator, the denominator.
use Rattle.std.proofs.Common.{◌≡◌, ℕ, ◌+◌, ◌-◌, ◌<◌, ◌≤◌, Bool, true, false, cond, List, [], ◌∷◌, length, get_or, take, drop, ℤ, sym, ap, ◌∙◌, add-one, arith, le-ltb, lt-ltb, eq-eqb, ne_eqb, Option, None, Some, Result, Ok, Err, eqb, eqb-true, ◌&&◌, ok_or}
use lib.Pointwise.{pointwise}
use Rattle.numbers.proofs.Laws.{and_left}
use Rattle.numbers.specs.Signs.{most_of}
use Rattle.beats.specs.declared.Beat.{Beat}
use Rattle.beats.specs.Beats.{is_beat}
use Rattle.splits.specs.Splits.{other, run}
use Rattle.splits.proofs.Laws.{part_rest}
use Rattle.spelling.specs.declared.BeatError.TheVariants.{NotBeat}
use Rattle.spelling.specs.Words.{some_digits, number_of, sign_by, numerator_of, denominator_of, fraction_by, fraction_of, beat_of}

-- the error of a number that is missing
pub missing : {A E : Type 0} (o : Option A) (e why : E) → o ≡ None → ◌≡◌ {A = Result A E} (Err why) (ok_or o e) → why ≡ e
missing None e why n h = cc
missing (Some a) e why n h = cc

-- ---- the numerator

-- by the test that std makes of the first byte
pub minus_first : (word : List ℕ) → pointwise eqb (take 1 word) (45 ∷ []) ≡ true → get_or word 0 0 ≡ 45
minus_first [] e = cc
minus_first (byte ∷ word) e = eqb-true byte 45 (and_left (eqb byte 45) true e)

pub plus_first : (word : List ℕ) → pointwise eqb (take 1 word) (45 ∷ []) ≡ false → get_or word 0 0 ≡ 45 → ⊥
plus_first [] e q = omega arith
plus_first (byte ∷ word) e q = let t : false ≡ true = sym e ∙ ap (λ (b : Bool). b && true) (eq-eqb byte 45 q) in cc

module _ (word : List ℕ) where
  pub minus : get_or word 0 0 ≡ 45 → sign_by true (some_digits (most_of true) (drop 1 word)) ≡ numerator_of word
  unfolding numerator_of
  minus e = simp (eq-eqb (get_or word 0 0) 45 e)

  pub plus : (get_or word 0 0 ≡ 45 → ⊥) → sign_by false (some_digits (most_of false) word) ≡ numerator_of word
  unfolding numerator_of
  plus n = simp (ne_eqb (get_or word 0 0) 45 n)

  -- ---- the denominator

  pub over : (slash : ℕ) → slash < length word → number_of (take (length word - (slash + 1)) (drop (slash + 1) word)) ≡ denominator_of word slash
  unfolding denominator_of
  over slash h =
      ap number_of (part_rest (slash + 1) word) ∙ ap (λ (k : ℕ). number_of (drop k word)) (add-one slash) ∙ simp (lt-ltb slash (length word) h)

  pub whole : (slash : ℕ) → length word ≤ slash → Some 1 ≡ denominator_of word slash
  unfolding denominator_of
  whole slash h = simp (le-ltb slash (length word) h)

  -- ---- both

  pub beat_is : (slash : ℕ) → slash ≡ run (other 47) word → (num : Option ℤ) (den : Option ℕ) → num ≡ numerator_of (take slash word)
      → den ≡ denominator_of word slash → fraction_of num den ≡ beat_of word
  unfolding beat_of
  beat_is slash e num den p q =
      ap (λ (n : Option ℤ). fraction_of n den) p ∙ ap (fraction_of (numerator_of (take slash word))) q
      ∙ ap (λ (place : ℕ). fraction_of (numerator_of (take place word)) (denominator_of word place)) e

module _ (num : ℤ) (den : ℕ) (z : ℤ) (e : z ≡ num) where
  beat : ℤ → Beat
  beat n = record { num = n; den = den }

  told : (t : Bool) → is_beat (beat z) ≡ t → is_beat (beat num) ≡ t
  told t h = ap (λ (n : ℤ). is_beat (beat n)) (sym e) ∙ h

  pub lowest_terms : is_beat (record { num = z; den = den }) ≡ true → Ok (record { num = z; den = den }) ≡ fraction_by num den
  unfolding beat
  lowest_terms h =
      ap (λ (n : ℤ). Ok (beat n)) e ∙ ap (λ (t : Bool). cond t (Ok (beat num)) (Err NotBeat)) (sym (told true h))

  pub not_lowest : is_beat (record { num = z; den = den }) ≡ false → (Err NotBeat) ≡ fraction_by num den
  unfolding beat
  not_lowest h = ap (λ (t : Bool). cond t (Ok (beat num)) (Err NotBeat)) (sym (told false h))
