-- Numbers, beats and tempos as a word of text says them. A word is a list of ASCII bytes.
use Rattle.std.specs.Prelude.{ℕ, suc, ◌+◌, ◌-◌, ◌*◌, ◌^◌, Bool, true, false, cond, ◌&&◌, List, [], ◌∷◌, ◌++◌, length, take, drop, ℤ, pos, ◌==◌, nat_le, nat_lt, slice_index, to_bits, Option, None, Some, Result, Ok, Err}
use Rattle.std.specs.Float.{binary32}
use Rattle.std.specs.Float.Ieee.{div, of_int}
use Rattle.numbers.specs.Signs.{with_sign, to_i64, most_of}
use Rattle.beats.specs.Beats.{is_beat}
use Rattle.splits.specs.Splits.{other, run}
use Rattle.beats.specs.declared.Beat.{Beat}
use Rattle.spelling.specs.declared.BeatError.{BeatError}
use Rattle.spelling.specs.declared.BeatError.TheVariants.{NotNumber, NotBeat}

-- ---- digits

-- the digit that a byte is: `0` to `9` are the bytes 48 to 57, `A` to `F` 65 to 70, `a` to `f` 97 to 102. For every other byte 16, which is a digit of no base here
unfoldable pub digit_of : ℕ → ℕ
digit_of byte =
    cond (nat_le 48 byte && nat_le byte 57)
    (byte - 48)
    (cond (nat_le 65 byte && nat_le byte 70) (byte - 55) (cond (nat_le 97 byte && nat_le byte 102) (byte - 87) 16))

module _ (base : ℕ) where
  -- every byte is a digit of the base
  unfoldable pub all_are_digits : List ℕ → Bool
  all_are_digits [] = true
  all_are_digits (byte ∷ word) = nat_lt (digit_of byte) base && all_are_digits word

  -- the number of `front` and the digits behind it
  unfoldable pub value_from : ℕ → List ℕ → ℕ
  value_from front [] = front
  value_from front (byte ∷ word) = value_from (front * base + digit_of byte) word

  -- the same, where every byte is a digit and the number is at most the limit
  unfoldable pub number_by : ℕ → ℕ → List ℕ → Option ℕ
  number_by limit front word = cond (all_are_digits word && nat_le (value_from front word) limit) (Some (value_from front word)) None

-- the number of at least one decimal digit, at most the limit
unfoldable pub some_digits : ℕ → List ℕ → Option ℕ
some_digits limit word = cond (length word == 0) None (number_by 10 limit 0 word)

-- ---- numbers

-- decimal digits, at least one; their number is at most 2^32 - 1. Zeros in front change nothing
unfoldable pub number_of : List ℕ → Option ℕ
number_of word = some_digits 4294967295 word

-- ---- beats

-- the number with this sign and this size. (An i64 stops at its ends, which no size that comes here is past.)
abbrev pub sign_by : Bool → Option ℕ → Option ℤ
sign_by negative (Some size) = Some (to_i64 (with_sign negative size))
sign_by negative None = None

-- digits, with a minus (byte 45) in front of a number below 0, from -2^63 to 2^63 - 1
unfoldable pub numerator_of : List ℕ → Option ℤ
numerator_of word = cond (slice_index word 0 == 45) (sign_by true (some_digits (most_of true) (drop 1 word))) (sign_by false (some_digits (most_of false) word))

-- the number behind a slash at a place, or 1 where there is none
unfoldable pub denominator_of : List ℕ → ℕ → Option ℕ
denominator_of word slash = cond (nat_lt slash (length word)) (number_of (drop (suc slash) word)) (Some 1)

-- num / den, where that is in lowest terms and the denominator is above 0
abbrev pub fraction_by : ℤ → ℕ → Result Beat BeatError
fraction_by num den = cond (is_beat (record { num = num; den = den })) (Ok (record { num = num; den = den })) (Err NotBeat)

abbrev pub fraction_of : Option ℤ → Option ℕ → Result Beat BeatError
fraction_of (Some num) (Some den) = fraction_by num den
fraction_of (Some num) None = Err NotNumber
fraction_of None denominator = Err NotNumber

-- `n`, `-n`, `n/d` or `-n/d`: the numerator stands before the first slash (byte 47), the denominator behind it
unfoldable pub beat_of : List ℕ → Result Beat BeatError
beat_of word = let slash = run (other 47) word in fraction_of (numerator_of (take slash word)) (denominator_of word slash)

-- ---- tempos

-- the bits of n / 10^places: a division of two binary32 numbers, rounded once. Up to n = 2^24 - 1 and 10 places both are exact, so this is the binary32 nearest to the decimal
abbrev pub quotient : ℕ → ℕ → ℕ
quotient n places = to_bits binary32 (div binary32 (of_int binary32 (pos n)) (of_int binary32 (pos (10 ^ places))))

-- the tempo of digits whose last ones, so many, stand behind a point
abbrev pub tempo_by : ℕ → Option ℕ → Option ℕ
tempo_by places (Some n) = Some (quotient n places)
tempo_by places None = None

-- the same of a number and one to ten digits that stand behind a point
unfoldable pub behind_point : ℕ → List ℕ → Option ℕ
behind_point front word = cond (nat_lt 0 (length word) && nat_le (length word) 10) (tempo_by (length word) (number_by 10 16777215 front word)) None

-- digits before a point, and one to ten digits behind it: all together, the point left out, are a number below 2^24
unfoldable pub point_tempo : List ℕ → List ℕ → Option ℕ
point_tempo front back = cond (nat_lt 0 (length front) && (nat_lt 0 (length back) && nat_le (length back) 10)) (tempo_by (length back) (number_by 10 16777215 0 (front ++ back))) None

-- `digits` or `digits.digits`. (The point is byte 46.)
unfoldable pub decimal_tempo : List ℕ → Option ℕ
decimal_tempo word =
    let point = run (other 46) word in
    cond (nat_lt point (length word))
    (point_tempo (take point word) (drop (suc point) word))
    (tempo_by 0 (some_digits 16777215 word))

-- ten bytes, of which the first two are `0x` (48 and 120)
unfoldable pub is_bits : List ℕ → Bool
is_bits word = length word == 10 && (slice_index word 0 == 48 && slice_index word 1 == 120)

-- the bits that hexadecimal digits say. (Eight are never above the limit.)
unfoldable pub bits_tempo : List ℕ → Option ℕ
bits_tempo word = number_by 16 4294967295 0 word

-- `0x` and eight hexadecimal digits, or decimal digits
unfoldable pub tempo_of : List ℕ → Option ℕ
tempo_of word = cond (is_bits word) (bits_tempo (drop 2 word)) (decimal_tempo word)
