-- A call's contract has one answer, and one output afterwards.
use Rattle.std.proofs.Common.{◌≡◌, ℕ, List, Result, sym, ◌∙◌}
use Rattle.numbers.specs.Answers.{Answer}
use Rattle.numbers.specs.declared.refusal.Refusal.{Refusal}
use Rattle.numbers.specs.Refusals.{read}
use Rattle.numbers.proofs.Laws.{one_reading, results_apart}

-- what a call of this crate or of points ensures, for one question: an answer by its reading, and the words
abbrev Told : Answer ℕ → List ℕ → Result ℕ Refusal → List ℕ → Type 0
Told answer words r after = (read r ≡ answer) × (after ≡ words)

pub one_outcome : (answer : Answer ℕ) (words : List ℕ) (r s : Result ℕ Refusal) (after other : List ℕ) → Told answer words r after → Told answer words s other → (r ≡ s) × (after ≡ other)
one_outcome answer words r s after other p q = (one_reading read results_apart r s answer p.0 q.0, p.1 ∙ sym q.1)
