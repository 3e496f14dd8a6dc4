-- Two's complement at 64 bits.
use Rattle.std.specs.Prelude.{cond, ℕ, ◌-◌, ltb, ℤ, pos, negsuc}

-- the number that 64 bits are. (negsuc n is -(n + 1).)
unfoldable pub signed_of : ℕ → ℤ
signed_of bits = cond (ltb bits 9223372036854775808) (pos bits) (negsuc (18446744073709551615 - bits))

-- and the bits of a number
unfoldable pub bits_of : ℤ → ℕ
bits_of (pos n) = n
bits_of (negsuc n) = 18446744073709551615 - n
