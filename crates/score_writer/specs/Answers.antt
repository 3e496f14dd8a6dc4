-- Writing a score: refused by 4 (more points than a file may have) and by 1 (a pickup or a tempo point that is no beat), in this order, with nothing changed.
-- The lists are the first points of the lent arrays, as many as the score counts.
use Rattle.std.specs.Prelude.{◌≡◌, Bool, cond, ◌&&◌, List, [], ◌++◌, ℕ, ◌*◌, leb, ℤ, length, take, drop}
use Rattle.numbers.specs.Answers.{Answer, accepted, refused, given}
use Rattle.meter.specs.Meters.{sound_pickup}
use Rattle.tempo.specs.Answers.{all_beats}
use Rattle.score.specs.declared.Score.{Score}
use Rattle.score_writer.specs.Files.{file_of}

-- at most 256 meter points and 1,024 tempo points
abbrev pub few_points : Score → Bool
few_points score = leb score.meters 256 && leb score.tempos 1024

module _ (score : Score) (meter : List ℕ) (nums : List ℤ) (dens bits : List ℕ) where
  -- the pickup and the points' beats are in lowest terms
  abbrev pub in_lowest_terms : Bool
  in_lowest_terms = sound_pickup score.pickup && all_beats (take score.tempos nums) (take score.tempos dens)

  -- the file of the points that count
  abbrev pub file_from : List ℕ
  file_from = file_of score (take (3 * score.meters) meter) (take score.tempos nums) (take score.tempos dens) (take score.tempos bits)

  -- accepted with the file's length
  unfoldable pub write_answer : Answer ℕ
  write_answer = cond (few_points score) (cond in_lowest_terms (accepted (length file_from)) (refused 1 [])) (refused 4 [])

  -- the bytes that were `old`, afterwards: later bytes stay
  unfoldable pub written_into : List ℕ → List ℕ
  written_into old = given (λ size. file_from ++ drop size old) write_answer old

  -- what a call does that is lent the bytes `old`: its answer, and the bytes afterwards
  pub record Writes (old : List ℕ) (answer : Answer ℕ) (new : List ℕ) : Type 0 where
    pub answer_is : answer ≡ write_answer
    pub bytes_are : new ≡ written_into old
