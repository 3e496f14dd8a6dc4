-- Whole texts, by computing: two wrong ones, and that of README.md, whose file is an example.
use mathlib.Core.Path.{◌≡◌, refl}
use mathlib.Core.List.{List, [], ◌∷◌}
use Prim.Native.Nat.{ℕ}
use lib.Ieee.{span, climb, size, odd, units, round, div, of_int, to_bits}
use Rattle.numbers.specs.Divisor.{remainders, gcd_of}
use Rattle.numbers.specs.Bits.{bits_of}
use Rattle.tempo.specs.Answers.{all_beats}
use Rattle.spelling.specs.Words.{digit_of, all_are_digits, value_from, number_by, some_digits, number_of, numerator_of, denominator_of, beat_of, behind_point, decimal_tempo, is_bits, tempo_of}
use Rattle.score.specs.Bytes.{word_bytes, words_bytes}
use Rattle.score_writer.specs.Files.{header_words, tempo_words, file_of}
use Rattle.score_writer.specs.Answers.{write_answer, written_into}
use Rattle.splits.specs.Splits.{lines, words, body, split, filled, in_front, run, longer, few, same}
use Rattle.items.specs.Items.{item_of, key_item, sole_number, number_value, rate_item, beats_item, tempo_item, tempo_by, tempo_value, pickup_item, pickup_by, beat_value}
use Rattle.items.specs.declared.Reason.TheVariants.{Twice, NoRate}
use Rattle.form.specs.Drafts.{empty, unless_said, with_rate, with_beats, with_tempo, with_pickup, needed, finished}
use Rattle.form.specs.Forms.{wrong_at, keeping, taken, taken_by, onward, walk, start, outcome, last_line, file_answer, file_bytes, end_answer, end_bytes, form_answer, form_bytes}

-- an empty text counts as one line
pub nothing : form_answer [] ≡ wrong_at 1 NoRate
nothing = unfold form_answer end_answer file_answer last_line outcome walk start lines split empty finished needed in refl

-- `rate 1`, `rate 2`
pub twice : form_answer (114 ∷ 97 ∷ 116 ∷ 101 ∷ 32 ∷ 49 ∷ 10 ∷ 114 ∷ 97 ∷ 116 ∷ 101 ∷ 32 ∷ 50 ∷ 10 ∷ []) ≡ wrong_at 2 Twice
twice =
    unfold form_answer end_answer taken taken_by keeping onward walk start outcome empty unless_said with_rate in
    unfold lines words body split filled in_front run longer few same in
    unfold item_of key_item sole_number number_value rate_item number_of some_digits number_by value_from all_are_digits digit_of in
    refl

-- `rate 48000`, `beats 4`, `tempo 120`, `pickup 1`
abbrev cue : List ℕ
cue =
    114 ∷ 97 ∷ 116 ∷ 101 ∷ 32 ∷ 52 ∷ 56 ∷ 48 ∷ 48 ∷ 48 ∷ 10
    ∷ 98 ∷ 101 ∷ 97 ∷ 116 ∷ 115 ∷ 32 ∷ 52 ∷ 10
    ∷ 116 ∷ 101 ∷ 109 ∷ 112 ∷ 111 ∷ 32 ∷ 49 ∷ 50 ∷ 48 ∷ 10
    ∷ 112 ∷ 105 ∷ 99 ∷ 107 ∷ 117 ∷ 112 ∷ 32 ∷ 49 ∷ 10 ∷ []

-- its file is examples/cue14.score: a header of twelve words and no points
pub file : form_bytes cue []
    ≡ 1 ∷ 0 ∷ 0 ∷ 0 ∷ 128 ∷ 187 ∷ 0 ∷ 0 ∷ 4 ∷ 0 ∷ 0 ∷ 0 ∷ 0 ∷ 0 ∷ 240 ∷ 66
    ∷ 1 ∷ 0 ∷ 0 ∷ 0 ∷ 1 ∷ 0 ∷ 0 ∷ 0 ∷ 0 ∷ 0 ∷ 0 ∷ 0
    ∷ 0 ∷ 0 ∷ 0 ∷ 0 ∷ 48 ∷ 0 ∷ 0 ∷ 0 ∷ 0 ∷ 0 ∷ 0 ∷ 0 ∷ 48 ∷ 0 ∷ 0 ∷ 0 ∷ 48 ∷ 0 ∷ 0 ∷ 0 ∷ []
file =
    unfold form_bytes end_bytes file_bytes in
    unfold lines words body split filled in_front run longer few same in
    unfold item_of key_item sole_number number_value rate_item beats_item tempo_item tempo_by tempo_value pickup_item pickup_by beat_value in
    unfold number_of some_digits number_by value_from all_are_digits digit_of numerator_of denominator_of beat_of tempo_of is_bits decimal_tempo behind_point gcd_of remainders in
    unfold span climb size odd units round div of_int to_bits in
    unfold taken taken_by keeping onward walk start outcome empty unless_said with_rate with_beats with_tempo with_pickup needed finished in
    unfold write_answer written_into file_of header_words tempo_words words_bytes word_bytes bits_of all_beats in
    refl
