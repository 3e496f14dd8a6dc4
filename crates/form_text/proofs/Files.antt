-- The form of what was read from a file is the form of the file; other bytes are refused; and one byte more than the longest file is enough to read.
use Rattle.std.proofs.Common.{◌≡◌, false, List, ℕ, Result, Ok, take}
use Rattle.numbers.specs.declared.refusal.Refusal.{Refusal}
use Rattle.numbers.specs.Refusals.{read}
use Rattle.score.specs.declared.Score.{Score}
use Rattle.score.specs.declared.music.Points.{Points}
use Rattle.score.specs.Format.{is_score}
use Rattle.score.specs.Answers.{score_answer, refusal_text, Leaves}
use Rattle.score.proofs.Laws as score
use Rattle.score.proofs.Laws.{made_of_file}
use Rattle.form_text.specs.Forms.{form_of, form_from, form_text}

pub other_is : (b : List ℕ) → is_score b ≡ false → refusal_text ≡ form_text b
unfolding form_text
other_is b none = simp none

pub read_enough : (b : List ℕ) → form_text (take 19505 b) ≡ form_text b
read_enough = score.read_enough form_text refusal_text other_is

module _ (b : List ℕ) {r : Result Score Refusal} where
  pub form_is : {s : Score} → r ≡ Ok s → read r ≡ score_answer b → {before now : Points} → Leaves b before now → form_from s now.meter now.nums now.dens now.bpms ≡ form_text b
  unfolding form_text
  form_is is e = made_of_file b is e form_of refusal_text
