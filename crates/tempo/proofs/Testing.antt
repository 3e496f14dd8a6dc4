-- What the test of a map found, and what is known of a map that it finds sound, by the cases of its questions.
use mathlib.Core.Path.{◌≡◌, refl, ◌∙◌}
use mathlib.Core.Bool.{Bool, true, false, ◌&&◌, cond}
use mathlib.Core.List.{List}
use Prim.Native.Nat.{ℕ}
use lib.Dec.{eqb, leb}
use lib.IntN.{ℤ}
use lib.ListN.{length}
use borrow.Author.Tests.{eqb-true, leb-true}
use Rattle.numbers.specs.Answers.{accepted}
use Rattle.std.proofs.Common.{Result, Ok, Err}
use Rattle.numbers.specs.declared.refusal.Refusal.{Refusal}
use Rattle.numbers.specs.declared.refusal.Refusal.TheVariants.{Uneven, TooLong, NotBeat}
use Rattle.numbers.specs.Refusals.{read}
use Rattle.numbers.proofs.Laws.{results_apart}
use Rattle.tempo.specs.Tempos.{Parallel}
use Rattle.tempo.specs.Answers.{all_beats, map_test, Walkable, if_walkable, test_answer}

abbrev fine : Result Unit Refusal
fine = Ok tt

read_test : (f : Result Unit Refusal) → if_walkable f (accepted tt) ≡ read f
read_test (Ok u) = refl
read_test (Err why) = refl

-- the answer of the test is what it found
pub finding : (nums : List ℤ) (dens tempos : List ℕ) (r : Result Unit Refusal) → read r ≡ test_answer nums dens tempos → r ≡ map_test nums dens tempos
finding nums dens tempos r e = results_apart r (map_test nums dens tempos) (e ∙ read_test (map_test nums dens tempos))

pub walkable : (nums : List ℤ) (dens tempos : List ℕ) → map_test nums dens tempos ≡ Ok tt → Walkable nums dens tempos
unfolding map_test
walkable nums dens tempos e = go (eqb (length dens) (length nums)) (eqb (length tempos) (length nums)) (leb (length nums) 65536) (all_beats nums dens) refl refl refl refl e
  where
    go : (a b c d : Bool) → eqb (length dens) (length nums) ≡ a → eqb (length tempos) (length nums) ≡ b → leb (length nums) 65536 ≡ c → all_beats nums dens ≡ d
        → cond (a && b) (cond c (cond d fine (Err NotBeat)) (Err TooLong)) (Err Uneven) ≡ fine → Walkable nums dens tempos
    go true true true true p q r s e = record { even = record { even_dens = eqb-true _ _ p; even_tempos = eqb-true _ _ q }; short = leb-true _ _ r; beats = s }
    go true true true false p q r s e = absurd cc
    go true true false d p q r s e = absurd cc
    go true false c d p q r s e = absurd cc
    go false b c d p q r s e = absurd cc

-- lists that are not parallel are refused by 3, before any other question
pub uneven : (nums : List ℤ) (dens tempos : List ℕ) → (Parallel nums dens tempos → ⊥) → map_test nums dens tempos ≡ Err Uneven
unfolding map_test
uneven nums dens tempos h = go (eqb (length dens) (length nums)) (eqb (length tempos) (length nums)) refl refl
  where
    go : (a b : Bool) → eqb (length dens) (length nums) ≡ a → eqb (length tempos) (length nums) ≡ b
        → cond (a && b) (cond (leb (length nums) 65536) (cond (all_beats nums dens) fine (Err NotBeat)) (Err TooLong)) (Err Uneven) ≡ Err Uneven
    go true true p q = absurd (h (record { even_dens = eqb-true _ _ p; even_tempos = eqb-true _ _ q }))
    go true false p q = refl
    go false b p q = refl
