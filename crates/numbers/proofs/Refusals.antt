-- No two results read alike, since each can be told from its reading. So a contract through the reading has one answer (`one_reading`).
use Rattle.std.proofs.Common.{◌≡◌, ℕ, zero, suc, List, [], ◌∷◌, Result, Ok, Err, refl, ap}
use Rattle.numbers.specs.Answers.{Answer, accepted, refused}
use Rattle.numbers.specs.declared.refusal.Part.TheVariants.{Bars, Step, Len, Beat}
use Rattle.numbers.specs.declared.refusal.Miss.{Miss}
use Rattle.numbers.specs.declared.refusal.Refusal.{Refusal}
use Rattle.numbers.specs.declared.refusal.Refusal.TheVariants.{NotBeat, Overflow, Uneven, TooLong, EmptyMap, BadNumbers, OffGrid, NoRoom, BadLoop, OutOfReach, Descend, Unsound, BadFile}
use Rattle.numbers.specs.Refusals.{number_of, facts_of, read}
use Rattle.numbers.proofs.Answers.{Apart, apart_by}

-- the item at a place of a list
abbrev at : {A : Type 0} → A → ℕ → List A → A
at d n [] = d
at d zero (x ∷ xs) = x
at d (suc n) (x ∷ xs) = at d n xs

abbrev off_from : List ℕ → Refusal
off_from [] = NotBeat
off_from (part ∷ []) = NotBeat
off_from (part ∷ place ∷ []) = NotBeat
off_from (part ∷ place ∷ value ∷ more) = OffGrid (record { part = at Bars part (Bars ∷ Step ∷ Len ∷ Beat ∷ []); place = place; value = value })

-- the refusal of a number and its facts
abbrev refusal_from : ℕ → List ℕ → Refusal
refusal_from n facts =
    at NotBeat n (NotBeat ∷ NotBeat ∷ Overflow ∷ Uneven ∷ TooLong ∷ EmptyMap ∷ BadNumbers ∷ off_from facts ∷ NoRoom ∷ BadLoop ∷ OutOfReach ∷ Descend ∷ Unsound ∷ BadFile ∷ [])

part_same : (miss : Miss) → off_from (facts_of (OffGrid miss)) ≡ OffGrid miss
part_same miss =
    elim (miss.part) as (λ p. off_from (facts_of (OffGrid (record { part = p; place = miss.place; value = miss.value }))) ≡ OffGrid (record { part = p; place = miss.place; value = miss.value }))
    [ Bars ↦ refl | Step ↦ refl | Len ↦ refl | Beat ↦ refl ]

refusal_same : (why : Refusal) → refusal_from (number_of why) (facts_of why) ≡ why
refusal_same NotBeat = refl
refusal_same Overflow = refl
refusal_same Uneven = refl
refusal_same TooLong = refl
refusal_same EmptyMap = refl
refusal_same BadNumbers = refl
refusal_same (OffGrid miss) = part_same miss
refusal_same NoRoom = refl
refusal_same BadLoop = refl
refusal_same OutOfReach = refl
refusal_same Descend = refl
refusal_same Unsound = refl
refusal_same BadFile = refl

abbrev back : {A : Type 0} → Answer A → Result A Refusal
back (accepted a) = Ok a
back (refused n facts) = Err (refusal_from n facts)

back_same : {A : Type 0} (r : Result A Refusal) → back (read r) ≡ r
back_same (Ok a) = refl
back_same (Err why) = ap Err (refusal_same why)

pub results_apart : {A : Type 0} → Apart (read {A = A})
results_apart = apart_by read back back_same
