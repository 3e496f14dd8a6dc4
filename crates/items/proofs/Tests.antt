-- The items of two words, by what the words say.
use mathlib.Core.Path.{◌≡◌, refl, sym, ap, ◌∙◌}
use mathlib.Core.List.{List}
use Prim.Native.Nat.{ℕ, ◌+◌, ◌-◌}
use native.Mathlib.Omega.{arith}
use borrow.Author.Tests.{eq-eqb, ne_eqb}
use lib.ListN.{length, take}
use Rattle.std.proofs.Common.{Option, None, Some, Result, Err, ok_or}
use Rattle.spelling.specs.Words.{number_of, beat_of, tempo_of}
use Rattle.splits.specs.Splits.{part}
use Rattle.beats.specs.declared.Beat.{Beat}
use Rattle.items.specs.declared.Reason.{Reason}
use Rattle.items.specs.declared.Reason.TheVariants.{NotNumber, NotTempo, NotMeter}
use Rattle.items.specs.Items.{number_value, tempo_value, beat_value, point_by, point_item, meter_by, slash_of, meter_over}

-- a word that says no number, and one that says no tempo
pub number_is : (said : Option ℕ) → ok_or said NotNumber ≡ number_value said
unfolding number_value
number_is None = refl
number_is (Some n) = refl

pub tempo_is : (said : Option ℕ) → ok_or said NotTempo ≡ tempo_value said
unfolding tempo_value
tempo_is None = refl
tempo_is (Some bits) = refl

-- a beat and a tempo
pub point_is : (place word : List ℕ) {p : Result Beat Reason} {v : Result ℕ Reason} → p ≡ beat_value (beat_of place) → v ≡ tempo_value (tempo_of word) → point_by p v ≡ point_item place word
unfolding point_item
point_is place word {p} {v} e f = ap (λ (x : Result Beat Reason). point_by x v) e ∙ ap (point_by (beat_value (beat_of place))) f

-- two numbers with a slash between
module _ (bar : ℕ) (word : List ℕ) (slash : ℕ) (e : slash ≡ slash_of word) where
  pub no_slash : slash ≡ length word → Err NotMeter ≡ meter_over bar word
  unfolding meter_over
  no_slash h = simp (eq-eqb (slash_of word) (length word) (sym e ∙ h))

  front : part word 0 slash ≡ take slash word
  front = let all : slash - 0 ≡ slash = omega arith in ap (λ (k : ℕ). take k word) all

  pub over_is : (slash ≡ length word → ⊥) → {num den : Result ℕ Reason}
      → num ≡ number_value (number_of (take slash word)) → den ≡ number_value (number_of (part word (slash + 1) (length word)))
      → meter_by bar num den ≡ meter_over bar word
  unfolding meter_over
  over_is n {num} {den} f g =
      ap (λ (v : Result ℕ Reason). meter_by bar v den) (f ∙ ap (λ (l : List ℕ). number_value (number_of l)) (sym front))
      ∙ ap (meter_by bar (number_value (number_of (part word 0 slash)))) g
      ∙ ap (λ (k : ℕ). meter_by bar (number_value (number_of (part word 0 k))) (number_value (number_of (part word (k + 1) (length word))))) e
      ∙ simp (ne_eqb (slash_of word) (length word) (λ q. n (e ∙ q)))
