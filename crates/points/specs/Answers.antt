-- The call over flat words: 3 where they are not three a point, and else what the call over their points answers and leaves.
use Rattle.std.specs.Prelude.{cond, List, [], ℕ, ◌%◌, eqb, length}
use Rattle.numbers.specs.Answers.{Answer, refused}
use Rattle.meter.specs.Meters.{points_of}
use Rattle.problems.specs.Problems.{meter_problems}
use Rattle.problems.specs.Answers.{meter_problems_answer, after}

abbrev pub flat_answer : List ℕ → List ℕ → Answer ℕ
flat_answer words out = cond (eqb (length words % 3) 0) (meter_problems_answer (points_of words) out) (refused 3 [])

abbrev pub flat_after : List ℕ → List ℕ → List ℕ
flat_after words out = after (meter_problems (points_of words)) (flat_answer words out) out
