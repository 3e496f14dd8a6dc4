-- Where there are more points than the larger array has, there are more than a map may have.
use Rattle.std.proofs.Common.{◌≡◌, arith, ℕ, List, [], ◌/◌, ◌%◌, ◌<◌, length}
use borrow.Author.Tests.{eq-eqb, lt-leb}
use Rattle.numbers.specs.Answers.{refused}
use Rattle.meter.specs.Meters.{points_of}
use Rattle.meter.proofs.Laws.{points_length}
use Rattle.points.specs.Answers.{flat_answer, flat_after}
use Rattle.points.proofs.flat_problems.Goals as goal

too_many : (words out : List ℕ) → length words % 3 ≡ 0 → 65537 < length words / 3 → (refused 4 [] ≡ flat_answer words out) × (out ≡ flat_after words out)
too_many words out even over =
    let e = lt-leb (length (points_of words)) 65536 (omega (arith, points_length words, over)) in
    (rw (eq-eqb _ _ even, e), rw (eq-eqb _ _ even, e))

pub returns-then-n-gt-MANY : goal.returns-then-n-gt-MANY
returns-then-n-gt-MANY c = let no = too_many c.args.words.now c.args.out.now (omega arith) c.if-n-gt-MANY.true in record { answer = no.0; words = no.1 }
