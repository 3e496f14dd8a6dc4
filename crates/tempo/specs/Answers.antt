-- The calls: 3, 4, 1 and 5 are tested in this order.
use Rattle.std.specs.Prelude.{◌≡◌, Bool, true, cond, ◌&&◌, List, [], ◌∷◌, ℕ, ◌≤◌, leb, eqb, ℤ, Float, length, Result, Ok, Err}
use Rattle.numbers.specs.declared.refusal.Refusal.{Refusal}
use Rattle.numbers.specs.declared.refusal.Refusal.TheVariants.{Uneven, TooLong, NotBeat}
use Rattle.numbers.specs.Answers.{Answer, accepted, refused}
use Rattle.numbers.specs.Refusals.{number_of, facts_of}
use Rattle.beats.specs.Beats.{is_beat}
use Rattle.tempo.specs.Tempos.{Parallel, tempo_points, seconds_at_beat, tempo_at_beat, beat_at_seconds}

-- each numerator with its denominator is a beat
unfoldable pub all_beats : List ℤ → List ℕ → Bool
all_beats [] dens = true
all_beats (num ∷ nums) [] = true
all_beats (num ∷ nums) (den ∷ dens) = is_beat (record { num = num; den = den }) && all_beats nums dens

-- the first of 3 (lists of unlike length), 4 (over 65,536 points) and 1 (a point that is no beat) that applies
unfoldable pub map_test : List ℤ → List ℕ → List ℕ → Result Unit Refusal
map_test nums dens tempos =
    cond (eqb (length dens) (length nums) && eqb (length tempos) (length nums))
    (cond (leb (length nums) 65536) (cond (all_beats nums dens) (Ok tt) (Err NotBeat)) (Err TooLong))
    (Err Uneven)

-- a map that can be walked: none of the three applies
pub record Walkable (nums : List ℤ) (dens tempos : List ℕ) : Type 0 where
  pub even : Parallel nums dens tempos
  pub short : length nums ≤ 65536
  pub beats : all_beats nums dens ≡ true

-- what a call answers to a map that can be walked, and to one that cannot
abbrev pub if_walkable : {A : Type 0} → Result Unit Refusal → Answer A → Answer A
if_walkable (Ok u) answer = answer
if_walkable (Err why) answer = refused (number_of why) (facts_of why)

-- the test alone
abbrev pub test_answer : List ℤ → List ℕ → List ℕ → Answer Unit
test_answer nums dens tempos = if_walkable (map_test nums dens tempos) (accepted tt)

-- 5 where there are no points
abbrev pub if_points : {A : Type 0} → List ℤ → Answer A → Answer A
if_points nums answer = cond (eqb (length nums) 0) (refused 5 []) answer

abbrev pub seconds_answer : List ℤ → List ℕ → List ℕ → Float → Answer Float
seconds_answer nums dens tempos beat = if_walkable (map_test nums dens tempos) (if_points nums (accepted (seconds_at_beat (tempo_points nums dens tempos) beat)))

abbrev pub tempo_answer : List ℤ → List ℕ → List ℕ → Float → Answer Float
tempo_answer nums dens tempos beat = if_walkable (map_test nums dens tempos) (if_points nums (accepted (tempo_at_beat (tempo_points nums dens tempos) beat)))

abbrev pub beat_answer : List ℤ → List ℕ → List ℕ → Float → Answer Float
beat_answer nums dens tempos seconds = if_walkable (map_test nums dens tempos) (if_points nums (accepted (beat_at_seconds (tempo_points nums dens tempos) seconds)))
