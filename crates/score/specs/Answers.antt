-- Reading a score file: refused by 13 alone, with nothing changed; else what it says, its points at the front of the lent lists.
use Rattle.std.specs.Prelude.{◌≡◌, cond, List, [], ◌∷◌, ℕ, pos, replicate}
use Rattle.numbers.specs.Answers.{Answer, accepted, refused, over}
use Rattle.score.specs.declared.Score.{Score}
use Rattle.score.specs.declared.music.Points.{Points}
use Rattle.score.specs.Format.{is_score, score_of, meter_words, tempo_nums, tempo_dens, tempo_bits}

unfoldable pub score_answer : List ℕ → Answer Score
score_answer bytes = cond (is_score bytes) (accepted (score_of bytes)) (refused 13 [])

-- `refused 13`, and a line end: what a program prints for bytes that are no score file
abbrev pub refusal_text : List ℕ
refusal_text = 114 ∷ 101 ∷ 102 ∷ 117 ∷ 115 ∷ 101 ∷ 100 ∷ 32 ∷ 49 ∷ 51 ∷ 10 ∷ []

-- a lent list that was `old`, after `new` was read into it: later elements stay
unfoldable pub after : {A : Type 0} → List ℕ → List A → List A → List A
after bytes new old = cond (is_score bytes) (over new old) old

-- what reading the bytes leaves in the lent lists, before and after
pub record Leaves (bytes : List ℕ) (before now : Points) : Type 0 where
  pub meter_is : now.meter ≡ after bytes (meter_words bytes) before.meter
  pub nums_is : now.nums ≡ after bytes (tempo_nums bytes) before.nums
  pub dens_is : now.dens ≡ after bytes (tempo_dens bytes) before.dens
  pub bits_is : now.bpms ≡ after bytes (tempo_bits bytes) before.bpms

-- lists of which nothing counts yet
abbrev pub no_points : Points
no_points = record { meter = replicate 768 0; nums = replicate 1024 (pos 0); dens = replicate 1024 0; bpms = replicate 1024 0 }
