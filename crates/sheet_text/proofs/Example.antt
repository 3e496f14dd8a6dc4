-- Document 01's example: the bytes of its twelve words, the bytes of its sheet, and that the one is printed for the other, by computing.
use mathlib.Core.Path.{◌≡◌, refl}
use mathlib.Core.List.{List, [], ◌∷◌}
use Prim.Native.Nat.{ℕ}
use lib.Ieee.{span, climb, size, odd, units, round, mul, div, lt, of_int, to_unsigned, is_nan, of_fields, of_bits}
use Rattle.numbers.specs.Divisor.{gcd_of, remainders}
use Rattle.numbers.specs.Bits.{signed_of}
use Rattle.rounding.specs.Floats.{round_away, maximum}
use Rattle.beats.specs.Beats.{new_beat, lowest}
use Rattle.beats.specs.Sums.{fitted}
use Rattle.meter.specs.Meters.{points_of, last_at, len_of, bar_len, next_change}
use Rattle.meter.specs.Starts.{after_bars, segments, start_of}
use Rattle.tempo.specs.Tempos.{tempo_points}
use Rattle.timeline.specs.Places.{seconds_of, frame_at_beat, frame_at_bar}
use Rattle.score.specs.Bytes.{word_at, number_at, each, word_bytes, words_bytes}
use Rattle.score.specs.Format.{laid_out, pickup_good, beats_good, is_score, pickup_of, score_of, meter_words, tempo_nums, tempo_dens, tempo_bits}
use Rattle.text.specs.Texts.{digits_by, decimal, signed_text, beat_text}
use Rattle.sheet_text.specs.Sheets.{line_text, lines_of, sheet_of, sheet_text}

pub example : List ℕ
example = words_bytes (1 ∷ 48000 ∷ 4 ∷ 0x42f0_0000 ∷ 1 ∷ 1 ∷ 0 ∷ 0 ∷ 48 ∷ 0 ∷ 48 ∷ 48 ∷ [])

-- a line of the sheet to a line
pub printed : List ℕ
printed =
    98 ∷ 97 ∷ 114 ∷ 32 ∷ 115 ∷ 116 ∷ 97 ∷ 114 ∷ 116 ∷ 32 ∷ 102 ∷ 114 ∷ 97 ∷ 109 ∷ 101 ∷ 10 ∷
    48 ∷ 32 ∷ 48 ∷ 32 ∷ 48 ∷ 10 ∷
    49 ∷ 32 ∷ 49 ∷ 32 ∷ 50 ∷ 52 ∷ 48 ∷ 48 ∷ 48 ∷ 10 ∷
    50 ∷ 32 ∷ 53 ∷ 32 ∷ 49 ∷ 50 ∷ 48 ∷ 48 ∷ 48 ∷ 48 ∷ 10 ∷
    51 ∷ 32 ∷ 57 ∷ 32 ∷ 50 ∷ 49 ∷ 54 ∷ 48 ∷ 48 ∷ 48 ∷ 10 ∷
    52 ∷ 32 ∷ 49 ∷ 51 ∷ 32 ∷ 51 ∷ 49 ∷ 50 ∷ 48 ∷ 48 ∷ 48 ∷ 10 ∷
    53 ∷ 32 ∷ 49 ∷ 55 ∷ 32 ∷ 52 ∷ 48 ∷ 56 ∷ 48 ∷ 48 ∷ 48 ∷ 10 ∷
    54 ∷ 32 ∷ 50 ∷ 49 ∷ 32 ∷ 53 ∷ 48 ∷ 52 ∷ 48 ∷ 48 ∷ 48 ∷ 10 ∷
    55 ∷ 32 ∷ 50 ∷ 53 ∷ 32 ∷ 54 ∷ 48 ∷ 48 ∷ 48 ∷ 48 ∷ 48 ∷ 10 ∷ []

pub prints : sheet_text example ≡ printed
prints =
    unfold sheet_text sheet_of lines_of line_text decimal digits_by signed_text beat_text example printed in
    unfold word_bytes words_bytes word_at signed_of number_at each laid_out pickup_good beats_good is_score pickup_of score_of meter_words tempo_nums tempo_dens tempo_bits in
    unfold points_of last_at len_of bar_len next_change after_bars segments start_of tempo_points seconds_of frame_at_beat frame_at_bar in
    unfold fitted new_beat lowest gcd_of remainders round_away maximum span climb size odd units round mul div lt of_int to_unsigned is_nan of_fields of_bits in
    refl
