-- The text form of a score file, one thing to a line, words split by one blank.
use Rattle.std.specs.Prelude.{cond, Option, Some, None, List, [], ◌∷◌, ◌++◌, ℕ, zero, suc, ◌+◌, ◌*◌, ℤ, pos, take, get_or}
use Rattle.beats.specs.declared.Beat.{Beat}
use Rattle.score.specs.declared.Score.{Score}
use Rattle.score.specs.Format.{is_score, score_of, meter_words, tempo_nums, tempo_dens, tempo_bits}
use Rattle.score.specs.Answers.{refusal_text}
use Rattle.text.specs.Texts.{decimal, beat_text}
use Rattle.spelling.specs.Keys.{rate_key, beats_key, tempo_key, pickup_key, meter_key}
use Rattle.form_text.specs.TempoTexts.{tempo_text}

-- ---- the words that begin a line, and the blank behind them

abbrev pub rate_word : List ℕ
rate_word = rate_key ++ (32 ∷ [])

abbrev pub beats_word : List ℕ
beats_word = beats_key ++ (32 ∷ [])

abbrev pub tempo_word : List ℕ
tempo_word = tempo_key ++ (32 ∷ [])

abbrev pub pickup_word : List ℕ
pickup_word = pickup_key ++ (32 ∷ [])

abbrev pub meter_word : List ℕ
meter_word = meter_key ++ (32 ∷ [])

-- ---- lines. (10 is a line end, 32 a blank, 47 a slash.)

-- `rate 48000`
unfoldable pub number_line : List ℕ → ℕ → List ℕ
number_line word number = word ++ (decimal number ++ (10 ∷ []))

-- `pickup 1`, and no line where there is none
unfoldable pub pickup_line : Option Beat → List ℕ
pickup_line None = []
pickup_line (Some beat) = pickup_word ++ (beat_text beat ++ (10 ∷ []))

-- `meter 8 3/4`
unfoldable pub meter_line : ℕ → ℕ → ℕ → List ℕ
meter_line bar numerator denominator = meter_word ++ (decimal bar ++ (32 ∷ (decimal numerator ++ (47 ∷ (decimal denominator ++ (10 ∷ []))))))

-- `tempo 33/2 132.5`
unfoldable pub tempo_line : Beat → ℕ → List ℕ
tempo_line beat bits = tempo_word ++ (beat_text beat ++ (32 ∷ (tempo_text bits ++ (10 ∷ []))))

-- ---- the parts

-- rate, beats and tempo, and the pickup where there is one
unfoldable pub head_text : Score → List ℕ
head_text score =
    number_line rate_word score.rate
    ++ (number_line beats_word score.beats ++ ((tempo_word ++ (tempo_text score.bpm ++ (10 ∷ []))) ++ pickup_line score.pickup))

-- a line for each of the first `count` meter points, which are flat words, three a point
unfoldable pub meter_lines : List ℕ → ℕ → List ℕ
meter_lines words zero = []
meter_lines words (suc count) = meter_lines words count ++ meter_line (get_or words (3 * count) 0) (get_or words (3 * count + 1) 0) (get_or words (3 * count + 2) 0)

-- a line for each of the first `count` tempo points
module _ (nums : List ℤ) (dens bits : List ℕ) where
  unfoldable pub tempo_lines : ℕ → List ℕ
  tempo_lines zero = []
  tempo_lines (suc count) = tempo_lines count ++ tempo_line (record { num = get_or nums count (pos 0); den = get_or dens count 0 }) (get_or bits count 0)

-- ---- the form

unfoldable pub form_of : Score → List ℕ → List ℤ → List ℕ → List ℕ → List ℕ
form_of score meter nums dens bits = head_text score ++ (meter_lines meter score.meters ++ tempo_lines nums dens bits score.tempos)

-- the form by the first points of longer lists, as many as the score counts
abbrev pub form_from : Score → List ℕ → List ℤ → List ℕ → List ℕ → List ℕ
form_from score meter nums dens bits =
    form_of score (take (3 * score.meters) meter) (take score.tempos nums) (take score.tempos dens) (take score.tempos bits)

-- the form of a score file, and of other bytes the refusal alone
unfoldable pub form_text : List ℕ → List ℕ
form_text bytes = cond (is_score bytes) (form_of (score_of bytes) (meter_words bytes) (tempo_nums bytes) (tempo_dens bytes) (tempo_bits bytes)) refusal_text
