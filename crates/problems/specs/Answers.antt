-- The calls: 3, 4, 1 and 8 are tested in this order, all before the first word is written.
use Rattle.std.specs.Prelude.{cond, List, [], ℕ, leb, ℤ, length}
use Rattle.numbers.specs.Answers.{Answer, accepted, refused, given, over}
use Rattle.meter.specs.declared.MeterPoint.{MeterPoint}
use Rattle.tempo.specs.Answers.{map_test, if_walkable}
use Rattle.problems.specs.Problems.{Problem, meter_problems, listed, tempo_problems, flat, room_for}

-- the count of the problems; 8 where there is no room for them
abbrev pub counted : List Problem → List ℕ → Answer ℕ
counted problems out = cond (room_for problems out) (accepted (length problems)) (refused 8 [])

-- the words afterwards: the records first, and later words kept; a refusal changes none
abbrev pub after : List Problem → Answer ℕ → List ℕ → List ℕ
after problems answer out = given (λ count. over (flat problems) out) answer out

-- ---- a meter map: 4, 8

abbrev pub meter_problems_answer : List MeterPoint → List ℕ → Answer ℕ
meter_problems_answer map out = cond (leb (length map) 65536) (counted (meter_problems map) out) (refused 4 [])

abbrev pub meter_after : List MeterPoint → List ℕ → List ℕ
meter_after map out = after (meter_problems map) (meter_problems_answer map out) out

-- ---- a tempo map: 3, 4, 1, 8

-- the answer and the words of one that can be walked
abbrev pub walkable_answer : List ℤ → List ℕ → List ℕ → List ℕ → Answer ℕ
walkable_answer nums dens tempos out = counted (tempo_problems (listed nums dens tempos)) out

abbrev pub walkable_after : List ℤ → List ℕ → List ℕ → List ℕ → List ℕ
walkable_after nums dens tempos out = after (tempo_problems (listed nums dens tempos)) (walkable_answer nums dens tempos out) out

abbrev pub tempo_problems_answer : List ℤ → List ℕ → List ℕ → List ℕ → Answer ℕ
tempo_problems_answer nums dens tempos out = if_walkable (map_test nums dens tempos) (walkable_answer nums dens tempos out)

abbrev pub tempo_after : List ℤ → List ℕ → List ℕ → List ℕ → List ℕ
tempo_after nums dens tempos out = after (tempo_problems (listed nums dens tempos)) (tempo_problems_answer nums dens tempos out) out
