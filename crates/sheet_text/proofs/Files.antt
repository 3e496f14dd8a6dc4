-- The sheet of what was read from a file is the sheet of the file; other bytes are refused; and one byte more than the longest file is enough to read.
use Rattle.std.proofs.Common.{◌≡◌, false, List, ℕ, Result, Ok, take}
use Rattle.numbers.specs.declared.refusal.Refusal.{Refusal}
use Rattle.numbers.specs.Refusals.{read}
use Rattle.meter.specs.Meters.{points_of}
use Rattle.tempo.specs.Tempos.{tempo_points}
use Rattle.score.specs.declared.Score.{Score}
use Rattle.score.specs.declared.music.Points.{Points}
use Rattle.score.specs.Format.{is_score}
use Rattle.score.specs.Answers.{score_answer, refusal_text, Leaves}
use Rattle.score.proofs.Laws as score
use Rattle.score.proofs.Laws.{made_of_file}
use Rattle.sheet_text.specs.Sheets.{sheet_of, sheet_from, clock_of, sheet_text}

pub other_is : (b : List ℕ) → is_score b ≡ false → refusal_text ≡ sheet_text b
unfolding sheet_text
other_is b none = simp none

pub read_enough : (b : List ℕ) → sheet_text (take 19505 b) ≡ sheet_text b
read_enough = score.read_enough sheet_text refusal_text other_is

module _ (b : List ℕ) {r : Result Score Refusal} where
  pub sheet_is : {s : Score} → r ≡ Ok s → read r ≡ score_answer b → {before now : Points} → Leaves b before now
      → sheet_from (clock_of s) s.meters s.tempos now.meter now.nums now.dens now.bpms ≡ sheet_text b
  unfolding sheet_text
  sheet_is is e = made_of_file b is e (λ s meter nums dens bits. sheet_of (clock_of s) (points_of meter) (tempo_points nums dens bits)) refusal_text
