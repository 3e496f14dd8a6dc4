-- The lines of a range copied: 4, 11 and 8 are tested in this order, all before the first word is written.
use Rattle.std.specs.Prelude.{Bool, cond, List, [], ℕ, leb, length}
use Rattle.numbers.specs.Answers.{Answer, accepted, refused, given, over}
use Rattle.lines.specs.Lines.{lines_answer, range_of}

-- ---- a part of lines, by what the test of the lines says

-- a line is one word
abbrev pub room_for : List ℕ → List ℕ → Bool
room_for part out = leb (length part) (length out)

-- the number of lines; 8 where the output has less room; and before it what refuses the lines
abbrev pub part_answer : Answer Unit → List ℕ → List ℕ → Answer ℕ
part_answer (accepted u) part out = cond (room_for part out) (accepted (length part)) (refused 8 [])
part_answer (refused number facts) part out = refused number facts

-- a refusal changes no word
abbrev pub part_after : Answer Unit → List ℕ → List ℕ → List ℕ
part_after test part out = given (λ n. over part out) (part_answer test part out) out

-- ---- the lines from start up to end

abbrev pub copy_answer : ℕ → ℕ → List ℕ → List ℕ → Answer ℕ
copy_answer start end lines out = part_answer (lines_answer lines) (range_of start end lines) out

abbrev pub copy_after : ℕ → ℕ → List ℕ → List ℕ → List ℕ
copy_after start end lines out = part_after (lines_answer lines) (range_of start end lines) out
