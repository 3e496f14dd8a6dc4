-- From beats to frames: binary64 operations, each rounded once, in the order written.
use Rattle.std.specs.Prelude.{ℕ, ℤ, pos, from_bits, Float}
use Rattle.std.specs.Float.{binary64}
use Rattle.std.specs.Float.Ieee.{div, mul, of_int, to_unsigned}
use Rattle.numbers.specs.Answers.{Answer, accepted}
use Rattle.rounding.specs.Floats.{round_away, maximum, float1}
use Rattle.beats.specs.declared.Beat.{Beat}
use Rattle.beats.specs.Beats.{if_beat}

-- 60.0, by its bits: 15 * 2 ^ 2
abbrev pub float60 : Float
float60 = from_bits binary64 0x404e_0000_0000_0000

-- beat = num / den. Numbers too wide for a float go to nearest, ties to even
abbrev pub beat_float : ℤ → ℕ → Float
beat_float num den = div binary64 (of_int binary64 num) (of_int binary64 (pos den))

-- seconds = beat * 60 / tempo
abbrev pub seconds_at : Float → Float → Float
seconds_at beat tempo = div binary64 (mul binary64 beat float60) tempo

-- frames = seconds * rate, rounded half away from zero: below 0 and a NaN give 0, too large 2^64 - 1
abbrev pub frames_at : Float → ℕ → ℕ
frames_at seconds rate = to_unsigned 64 (round_away (mul binary64 seconds (of_int binary64 (pos rate))))

-- the frame of a beat at one tempo, which is taken as 1 where it is below 1 or a NaN
unfoldable pub frame_of : ℤ → ℕ → Float → ℕ → ℕ
frame_of num den bpm rate = frames_at (seconds_at (beat_float num den) (maximum bpm float1)) rate

-- ---- the calls

abbrev pub float_answer : Beat → Answer Float
float_answer beat = if_beat beat (accepted (beat_float beat.num beat.den))

abbrev pub frame_answer : Beat → Float → ℕ → Answer ℕ
frame_answer beat bpm rate = if_beat beat (accepted (frame_of beat.num beat.den bpm rate))
