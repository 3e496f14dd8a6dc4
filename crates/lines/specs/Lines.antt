-- Bar lines: when a list of them is refused, and those of a range.
use Rattle.std.specs.Prelude.{Bool, true, false, cond, ◌&&◌, List, [], ◌∷◌, ℕ, leb, ltb, length}
use Rattle.numbers.specs.Answers.{Answer, accepted, refused, given}

-- no line is less than the one before, and the first is not less than `low`
unfoldable pub ascends_from : ℕ → List ℕ → Bool
ascends_from low [] = true
ascends_from low (line ∷ rest) = leb low line && ascends_from line rest

-- no line is less than the one before; any may be the first, as none is below 0
abbrev pub ascends : List ℕ → Bool
ascends lines = ascends_from 0 lines

-- 4 over 65,536 lines; 11 where a line is less than the one before
abbrev pub lines_answer : List ℕ → Answer Unit
lines_answer lines = cond (leb (length lines) 65536) (cond (ascends lines) (accepted tt) (refused 11 [])) (refused 4 [])

-- ---- the range of lines

-- those with start <= line < end; so none where start >= end
unfoldable pub between : ℕ → ℕ → List ℕ → List ℕ
between start end [] = []
between start end (line ∷ rest) = elim (leb start line && ltb line end) [ true ↦ line ∷ between start end rest | false ↦ between start end rest ]

-- no lines of a list that is refused
abbrev pub range_of : ℕ → ℕ → List ℕ → List ℕ
range_of start end lines = given (λ u. between start end lines) (lines_answer lines) []
