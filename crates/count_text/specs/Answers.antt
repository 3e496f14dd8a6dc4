-- What the drummer is told of a file and a beat, byte by byte.
use Rattle.std.specs.Prelude.{Bool, Option, Result, Ok, Err, cond, List, [], ◌∷◌, ◌++◌, ℕ, zero, suc, min, ◌-◌, leb, eqb}
use Rattle.beats.specs.declared.Beat.{Beat}
use Rattle.meter.specs.declared.MeterPoint.{MeterPoint}
use Rattle.meter.specs.Meters.{points_of}
use Rattle.meter.specs.Counts.{count_at}
use Rattle.meter.specs.Fits.{last_bar}
use Rattle.fits.specs.Decision.{fits_bool}
use Rattle.score.specs.Format.{is_score, score_of, meter_words}
use Rattle.score.specs.Answers.{refusal_text}
use Rattle.spelling.specs.declared.BeatError.{BeatError}
use Rattle.spelling.specs.Words.{beat_of}
use Rattle.text.specs.Texts.{decimal, beat_text}

-- ---- the count

-- `more than `
abbrev pub more_text : List ℕ
more_text = 109 ∷ 111 ∷ 114 ∷ 101 ∷ 32 ∷ 116 ∷ 104 ∷ 97 ∷ 110 ∷ 32 ∷ []

-- the bars past the first `less`; 4,294,967,295 is the count that was not searched, where bar 2^31 starts before the beat
unfoldable pub amount_text : ℕ → ℕ → List ℕ
amount_text count less = cond (eqb count 4294967295) (more_text ++ decimal (last_bar - less)) (decimal (count - less))

-- ` bar` for one, and else ` bars`
unfoldable pub unit_text : ℕ → List ℕ
unit_text count = cond (eqb count 1) (32 ∷ 98 ∷ 97 ∷ 114 ∷ []) (32 ∷ 98 ∷ 97 ∷ 114 ∷ 115 ∷ [])

-- ` to beat `
abbrev pub to_beat_text : List ℕ
to_beat_text = 32 ∷ 116 ∷ 111 ∷ 32 ∷ 98 ∷ 101 ∷ 97 ∷ 116 ∷ 32 ∷ []

-- `4 bars to beat 28/3`, and a line end
unfoldable pub count_line : ℕ → Beat → List ℕ
count_line count beat = (((amount_text count 0 ++ unit_text count) ++ to_beat_text) ++ beat_text beat) ++ (10 ∷ [])

-- ---- whether it is sure

-- `the score fits: the count is sure`
abbrev pub sure_text : List ℕ
sure_text =
    116 ∷ 104 ∷ 101 ∷ 32 ∷ 115 ∷ 99 ∷ 111 ∷ 114 ∷ 101 ∷ 32 ∷ 102 ∷ 105 ∷ 116 ∷ 115 ∷ 58 ∷ 32 ∷ 116 ∷ 104 ∷ 101 ∷ 32 ∷ 99 ∷ 111 ∷ 117 ∷ 110 ∷ 116 ∷ 32 ∷ 105 ∷ 115
    ∷ 32 ∷ 115 ∷ 117 ∷ 114 ∷ 101 ∷ 10 ∷ []

-- `the score does not fit: the count is not sure`
abbrev pub unsure_text : List ℕ
unsure_text =
    116 ∷ 104 ∷ 101 ∷ 32 ∷ 115 ∷ 99 ∷ 111 ∷ 114 ∷ 101 ∷ 32 ∷ 100 ∷ 111 ∷ 101 ∷ 115 ∷ 32 ∷ 110 ∷ 111 ∷ 116 ∷ 32 ∷ 102 ∷ 105 ∷ 116 ∷ 58 ∷ 32 ∷ 116 ∷ 104 ∷ 101 ∷ 32
    ∷ 99 ∷ 111 ∷ 117 ∷ 110 ∷ 116 ∷ 32 ∷ 105 ∷ 115 ∷ 32 ∷ 110 ∷ 111 ∷ 116 ∷ 32 ∷ 115 ∷ 117 ∷ 114 ∷ 101 ∷ 10 ∷ []

unfoldable pub fits_line : Bool → List ℕ
fits_line fits = cond fits sure_text unsure_text

-- ---- the display's row

-- so many of one byte
unfoldable pub repeated : ℕ → ℕ → List ℕ
repeated byte zero = []
repeated byte (suc count) = repeated byte count ++ (byte ∷ [])

-- twenty squares in brackets (91, 93): a `#` (35) for each bar, as long as there are squares, and a `.` (46) in each of the others
unfoldable pub row_text : ℕ → List ℕ
row_text count = (((91 ∷ []) ++ repeated 35 (min count 20)) ++ repeated 46 (20 - min count 20)) ++ (93 ∷ [])

-- ` over`
abbrev pub over_word : List ℕ
over_word = 32 ∷ 111 ∷ 118 ∷ 101 ∷ 114 ∷ []

-- ` 7 over` where there are more bars than squares
unfoldable pub over_text : ℕ → List ℕ
over_text count = cond (leb count 20) [] (((32 ∷ []) ++ amount_text count 20) ++ over_word)

unfoldable pub row_line : ℕ → List ℕ
row_line count = (row_text count ++ over_text count) ++ (10 ∷ [])

-- ---- the three lines

unfoldable pub lines_text : ℕ → Bool → Beat → List ℕ
lines_text count fits beat = (count_line count beat ++ fits_line fits) ++ row_line count

-- ---- from a file and a word

-- `refused 1`
abbrev pub not_beat_text : List ℕ
not_beat_text = 114 ∷ 101 ∷ 102 ∷ 117 ∷ 115 ∷ 101 ∷ 100 ∷ 32 ∷ 49 ∷ 10 ∷ []

module _ (map : List MeterPoint) (default : ℕ) (pickup : Option Beat) where
  -- the count of bars up to a beat, and whether the score fits
  unfoldable pub answer_text : Beat → List ℕ
  answer_text beat = lines_text (count_at map default pickup beat) (fits_bool map default pickup) beat

  -- `refused 1` for a word that is no beat
  unfoldable pub asked_text : Result Beat BeatError → List ℕ
  asked_text (Ok beat) = answer_text beat
  asked_text (Err why) = not_beat_text

-- the answer for a score file and a word, and of other bytes the refusal alone, whatever the word is
unfoldable pub count_text : List ℕ → List ℕ → List ℕ
count_text file word = cond (is_score file) (asked_text (points_of (meter_words file)) (score_of file).beats (score_of file).pickup (beat_of word)) refusal_text
