-- What a call answers, in the numbers of document 01. The enums that have such a number are read through this.
use Rattle.std.specs.Prelude.{ℕ, ◌≡◌, Bool, true, false, List, ◌++◌, map, length, drop}

-- accepted, with its values; or refused, by a number and the facts that go with it (none but for 7: what, place, value)
pub data Answer (A : Type 0) : Type 0 where
  accepted : A → Answer A
  refused : ℕ → List ℕ → Answer A

-- the number: 0 where the call is accepted
abbrev pub number : {A : Type 0} → Answer A → ℕ
number (accepted a) = 0
number (refused n facts) = n

abbrev pub is_accepted : {A : Type 0} → Answer A → Bool
is_accepted (accepted a) = true
is_accepted (refused n facts) = false

-- what an accepted call gives, and what stands where it is refused
abbrev pub given : {A B : Type 0} → (A → B) → Answer A → B → B
given part (accepted a) old = part a
given part (refused number facts) old = old

-- what `next` makes of what an accepted call gives; a refusal stays
abbrev pub then : {A B : Type 0} → Answer A → (A → Answer B) → Answer B
then (accepted a) next = next a
then (refused number facts) next = refused number facts

-- what is written over a list from its start; later words stay
abbrev pub over : {A : Type 0} → List A → List A → List A
over new old = new ++ drop (length new) old

-- a table holds: its rows are questions, each with its answer
abbrev pub Agree : {A B : Type 0} → (A → B) → List (A × B) → Type 0
Agree f table = map f (map (λ row. row.0) table) ≡ map (λ row. row.1) table
