-- The answer by what was read from a file is the answer for the file; other bytes are refused; and one byte more than the longest file is enough to read.
use Rattle.std.proofs.Common.{◌≡◌, sym, ap, ◌∙◌, Bool, true, false, List, ℕ, ◌*◌, take, Option, Result, Ok, Err}
use Rattle.meter.specs.declared.MeterPoint.{MeterPoint}
use Rattle.meter.specs.Meters.{points_of}
use Rattle.meter.specs.Counts.{count_at}
use Rattle.beats.specs.declared.Beat.{Beat}
use Rattle.fits.specs.Decision.{fits_bool}
use Rattle.score.specs.declared.Score.{Score}
use Rattle.numbers.specs.declared.refusal.Refusal.{Refusal}
use Rattle.numbers.specs.Refusals.{read}
use Rattle.score.specs.Format.{is_score, score_of, meter_words}
use Rattle.score.specs.Answers.{score_answer, refusal_text, after}
use Rattle.score.proofs.Laws as score
use Rattle.score.proofs.Laws.{good_file, says, meter_front}
use Rattle.spelling.specs.declared.BeatError.{BeatError}
use Rattle.spelling.specs.Words.{beat_of}
use Rattle.count_text.specs.Answers.{lines_text, answer_text, not_beat_text, asked_text, count_text}

-- ---- the lines, by the score

module _ (map : List MeterPoint) (default : ℕ) (pickup : Option Beat) where
  pub answer_is : (beat : Beat) {count : ℕ} {fits : Bool} → count ≡ count_at map default pickup beat → fits ≡ fits_bool map default pickup
      → lines_text count fits beat ≡ answer_text map default pickup beat
  unfolding answer_text
  answer_is beat {count} {fits} e g = ap (λ (k : ℕ). lines_text k fits beat) e ∙ ap (λ (f : Bool). lines_text (count_at map default pickup beat) f beat) g

  module _ (said : Result Beat BeatError) where
    pub read_is : (beat : Beat) → said ≡ Ok beat → answer_text map default pickup beat ≡ asked_text map default pickup said
    unfolding asked_text
    read_is beat e = sym (ap (asked_text map default pickup) e)

    pub no_beat : {why : BeatError} → said ≡ Err why → not_beat_text ≡ asked_text map default pickup said
    unfolding asked_text
    no_beat e = sym (ap (asked_text map default pickup) e)

-- ---- the file

module _ (word : List ℕ) where
  pub other_is : (file : List ℕ) → is_score file ≡ false → refusal_text ≡ count_text file word
  unfolding count_text
  other_is file none = simp none

  pub read_enough : (file : List ℕ) → count_text (take 19505 file) word ≡ count_text file word
  read_enough = score.read_enough (λ file. count_text file word) refusal_text other_is

module _ (file word : List ℕ) where
  good_is : is_score file ≡ true
      → asked_text (points_of (meter_words file)) (score_of file).beats (score_of file).pickup (beat_of word) ≡ count_text file word
  unfolding count_text
  good_is g = simp g

  pub file_is : {r : Result Score Refusal} {score : Score} → r ≡ Ok score → read r ≡ score_answer file → (meter₀ : List ℕ) {meter words : List ℕ} {default : ℕ} {pickup : Option Beat}
      → meter ≡ after file (meter_words file) meter₀ → words ≡ take (3 * score.meters) meter → default ≡ score.beats → pickup ≡ score.pickup
      → asked_text (points_of words) default pickup (beat_of word) ≡ count_text file word
  file_is is e meter₀ m w d p =
      let g = good_file file is e in
      rw (w, d, p, says file is e, m, meter_front file g meter₀) (good_is g)
