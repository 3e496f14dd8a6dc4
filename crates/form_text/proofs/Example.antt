-- Tempos as text, by computing: whole numbers, places behind the point, zeros in front, and bits where no decimal reads back.
use mathlib.Core.Path.{◌≡◌, refl}
use mathlib.Core.List.{[], ◌∷◌}
use lib.Ieee.{span, climb, size, odd, units, round, mul, div, lt, of_int, to_unsigned, is_nan, of_fields, of_bits, to_bits}
use Rattle.rounding.specs.Floats.{round_away}
use Rattle.text.specs.Texts.{digits_by, decimal}
use Rattle.form_text.specs.TempoTexts.{digits_for, reads_back, places_from, last_digits, point_text, bits_text, tempo_text}

-- 120
pub whole : tempo_text 0x42f0_0000 ≡ 49 ∷ 50 ∷ 48 ∷ []
whole =
    unfold tempo_text point_text bits_text last_digits places_from reads_back digits_for decimal digits_by in
    unfold round_away span climb size odd units round mul div lt of_int to_unsigned is_nan of_fields of_bits to_bits in
    refl

-- 132.5
pub half : tempo_text 0x4304_8000 ≡ 49 ∷ 51 ∷ 50 ∷ 46 ∷ 53 ∷ []
half =
    unfold tempo_text point_text bits_text last_digits places_from reads_back digits_for decimal digits_by in
    unfold round_away span climb size odd units round mul div lt of_int to_unsigned is_nan of_fields of_bits to_bits in
    refl

-- 0.05
pub twentieth : tempo_text 0x3d4c_cccd ≡ 48 ∷ 46 ∷ 48 ∷ 53 ∷ []
twentieth =
    unfold tempo_text point_text bits_text last_digits places_from reads_back digits_for decimal digits_by in
    unfold round_away span climb size odd units round mul div lt of_int to_unsigned is_nan of_fields of_bits to_bits in
    refl

-- an infinity: 0x7f800000
pub infinite : tempo_text 0x7f80_0000 ≡ 48 ∷ 120 ∷ 55 ∷ 102 ∷ 56 ∷ 48 ∷ 48 ∷ 48 ∷ 48 ∷ 48 ∷ []
infinite =
    unfold tempo_text point_text bits_text last_digits places_from reads_back digits_for decimal digits_by in
    unfold round_away span climb size odd units round mul div lt of_int to_unsigned is_nan of_fields of_bits to_bits in
    refl
