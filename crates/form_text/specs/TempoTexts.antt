-- A tempo as text: a decimal where that reads back as the same bits, and else the bits themselves.
use Rattle.std.specs.Prelude.{Bool, cond, ◌&&◌, List, [], ◌∷◌, ◌++◌, ℕ, zero, suc, ◌+◌, ◌/◌, ◌%◌, ◌^◌, ltb, eqb, pos}
use Rattle.std.specs.Float.{binary32, binary64}
use Rattle.std.specs.Float.Ieee.{of_bits, mul, of_int, to_unsigned}
use Rattle.rounding.specs.Floats.{round_away}
use Rattle.text.specs.Texts.{decimal}
use Rattle.spelling.specs.Words.{quotient}

-- ---- which decimal

-- the digits to try with so many places: the tempo times 10 ^ places, in binary64, to the nearest whole number. (A NaN and numbers below 0 give 0.)
unfoldable pub digits_for : ℕ → ℕ → ℕ
digits_for bits places = to_unsigned 64 (round_away (mul binary64 (of_bits binary32 bits) (of_int binary64 (pos (10 ^ places)))))

-- they are below 2 ^ 24, and with a point before so many of them they are read as the same bits
unfoldable pub reads_back : ℕ → ℕ → Bool
reads_back bits places = ltb (digits_for bits places) 16777216 && eqb (quotient (digits_for bits places) places) bits

-- the first number of places that reads back, from `places` on; where none of the `left` does, the number behind them
unfoldable pub places_from : ℕ → ℕ → ℕ → ℕ
places_from bits places zero = places
places_from bits places (suc left) = cond (reads_back bits places) places (places_from bits (places + 1) left)

-- of 0, 1, 2, 3 and 4 places; 5 is none of them
abbrev pub places_for : ℕ → ℕ
places_for bits = places_from bits 0 5

-- ---- its text

-- a digit to a base up to 16, in lower case. (48 is the digit 0, 97 the letter a.)
abbrev pub digit_byte : ℕ → ℕ
digit_byte digit = cond (ltb digit 10) (48 + digit) (87 + digit)

-- the last `count` digits of n, with zeros in front where n has fewer
unfoldable pub last_digits : ℕ → ℕ → ℕ → List ℕ
last_digits base zero n = []
last_digits base (suc count) n = last_digits base count (n / base) ++ (digit_byte (n % base) ∷ [])

-- so many of the digits behind a point, and no point where there are none
unfoldable pub point_text : ℕ → ℕ → List ℕ
point_text digits places = decimal (digits / 10 ^ places) ++ cond (eqb places 0) [] (46 ∷ last_digits 10 places digits)

-- `0x` and eight hexadecimal digits
unfoldable pub bits_text : ℕ → List ℕ
bits_text bits = 48 ∷ 120 ∷ last_digits 16 8 bits

unfoldable pub tempo_text : ℕ → List ℕ
tempo_text bits = cond (ltb (places_for bits) 5) (point_text (digits_for bits (places_for bits)) (places_for bits)) (bits_text bits)
