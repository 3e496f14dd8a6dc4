-- The sheet that is printed for a file, byte by byte.
use Rattle.std.specs.Prelude.{cond, List, [], ◌∷◌, ◌++◌, ℕ, zero, suc, ◌*◌, ℤ, take}
use Rattle.std.specs.Float.{binary32}
use Rattle.std.specs.Float.Ieee.{of_bits}
use Rattle.beats.specs.declared.Beat.{Beat}
use Rattle.meter.specs.declared.MeterPoint.{MeterPoint}
use Rattle.meter.specs.Meters.{points_of}
use Rattle.meter.specs.Starts.{start_of}
use Rattle.tempo.specs.Tempos.{TempoPoint, tempo_points}
use Rattle.transport.specs.declared.Transport.{Transport}
use Rattle.transport.specs.Transports.{made}
use Rattle.timeline.specs.Places.{frame_at_bar}
use Rattle.score.specs.declared.Score.{Score}
use Rattle.score.specs.Format.{is_score, score_of, meter_words, tempo_nums, tempo_dens, tempo_bits}
use Rattle.score.specs.Answers.{refusal_text}
use Rattle.text.specs.Texts.{decimal, beat_text}

-- ---- lines

-- the label of bar k is k
abbrev pub label : ℕ → ℕ
label bar = bar

-- label, start and frame, a blank between them, and a line end
unfoldable pub line_text : ℕ → Beat → ℕ → List ℕ
line_text label start frame = decimal label ++ (32 ∷ (beat_text start ++ (32 ∷ (decimal frame ++ (10 ∷ [])))))

-- `bar start frame`
abbrev pub header_text : List ℕ
header_text = 98 ∷ 97 ∷ 114 ∷ 32 ∷ 115 ∷ 116 ∷ 97 ∷ 114 ∷ 116 ∷ 32 ∷ 102 ∷ 114 ∷ 97 ∷ 109 ∷ 101 ∷ 10 ∷ []

-- ---- a sheet

module _ (t : Transport) (map : List MeterPoint) (points : List TempoPoint) where
  abbrev pub line_of : ℕ → List ℕ
  line_of bar = line_text (label bar) (start_of map t.beats_per_bar t.pickup bar) (frame_at_bar t map points bar)

  -- the lines of so many bars, from bar 0 on
  unfoldable pub lines_of : ℕ → List ℕ
  lines_of zero = []
  lines_of (suc bars) = lines_of bars ++ line_of bars

  -- the header and eight lines
  unfoldable pub sheet_of : List ℕ
  sheet_of = header_text ++ lines_of 8

-- the sheet by the first points of longer lists
abbrev pub sheet_from : Transport → ℕ → ℕ → List ℕ → List ℤ → List ℕ → List ℕ → List ℕ
sheet_from t meters tempos meter nums dens bits =
    sheet_of t (points_of (take (3 * meters) meter)) (tempo_points (take tempos nums) (take tempos dens) (take tempos bits))

-- ---- from a file

-- a score's clock: a transport that never ends
abbrev pub clock_of : Score → Transport
clock_of score = made score.rate (of_bits binary32 score.bpm) score.beats 18446744073709551615 score.pickup

-- the sheet of a score file, and of other bytes the refusal alone
unfoldable pub sheet_text : List ℕ → List ℕ
sheet_text bytes =
    cond (is_score bytes)
    (sheet_of (clock_of (score_of bytes)) (points_of (meter_words bytes)) (tempo_points (tempo_nums bytes) (tempo_dens bytes) (tempo_bits bytes)))
    refusal_text
