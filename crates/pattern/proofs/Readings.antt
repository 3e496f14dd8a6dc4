-- A call's contract has one answer, and one output afterwards.
use Rattle.std.proofs.Common.{◌≡◌, ℕ, List, Result, sym, ◌∙◌}
use Rattle.numbers.specs.Answers.{Answer}
use Rattle.numbers.specs.Refusals.{read}
use Rattle.numbers.specs.declared.refusal.Refusal.{Refusal}
use Rattle.numbers.proofs.Laws.{one_reading, results_apart}
use Rattle.pattern.specs.declared.Wrote.{Wrote}
use Rattle.pattern.specs.Phrases.{Phrase, answered}
use Rattle.pattern.specs.Readings.{Outcome}

-- two answers and outputs that meet the contract of one call are the same
pub one_outcome : (gives : Answer Phrase) (r s : Result Wrote Refusal) (out after other : List ℕ) → Outcome gives r out after → Outcome gives s out other → (r ≡ s) × (after ≡ other)
one_outcome gives r s out after other p q = (one_reading read results_apart r s (answered gives out) p.answers q.answers, p.leaves ∙ sym q.leaves)
