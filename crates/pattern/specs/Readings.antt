-- What each call's contract says of its answer and of the lent words.
use Rattle.std.specs.Prelude.{List, ◌≡◌, ℕ, Result}
use Rattle.numbers.specs.Answers.{Answer}
use Rattle.numbers.specs.Refusals.{read}
use Rattle.numbers.specs.declared.refusal.Refusal.{Refusal}
use Rattle.pattern.specs.declared.Wrote.{Wrote}
use Rattle.pattern.specs.Phrases.{Phrase, answered, written}

-- The outcome of a call that gives this (Calls): its answer r, and the words `after` that it leaves of the lent words `out`. Both are equal to what follows
-- from those, so there is one outcome (`one_outcome`, proofs/Readings.antt).
pub record Outcome (gives : Answer Phrase) (r : Result Wrote Refusal) (out after : List ℕ) : Type 0 where
  pub answers : read r ≡ answered gives out
  pub leaves : after ≡ written gives out
