-- From beats to the steps of a grid.
use Rattle.std.specs.Prelude.{ℕ, ◌*◌, ◌/◌, ◌%◌, min, max, cond, [], ◌∷◌, ℤ, pos, negsuc, ◌==◌, unsigned_abs}
use Rattle.numbers.specs.Answers.{Answer, accepted, refused}
use Rattle.beats.specs.declared.Beat.{Beat}
use Rattle.beats.specs.Beats.{if_beat}

-- num * steps / den, a whole number: below 0 it counts as 0, and it stops at 2^32 - 1
abbrev pub step_of : ℤ → ℕ → ℕ → ℕ
step_of (pos num) den steps = min (num * steps / den) 4294967295
step_of (negsuc num) den steps = 0

-- the step of num / den with so many steps a beat; refused by 7 (what 3, a beat; place 0; value 0) between two steps
unfoldable pub on_grid : ℤ → ℕ → ℕ → Answer ℕ
on_grid num den steps = cond (unsigned_abs num * steps % den == 0) (accepted (step_of num den steps)) (refused 7 (3 ∷ 0 ∷ 0 ∷ []))

-- the call: steps a beat count as 1 where they are 0
abbrev pub step_answer : Beat → ℕ → Answer ℕ
step_answer beat steps = if_beat beat (on_grid beat.num beat.den (max steps 1))
