-- The sign and the magnitude of a whole number, and what an i64 holds.
use Rattle.std.specs.Prelude.{Bool, true, false, ◌&&◌, ℕ, min, ℤ, pos, negsuc, neg_ℤ}
use Rattle.std.specs.Int.Signed.{le_z}

-- whether z is below zero
abbrev pub is_neg : ℤ → Bool
is_neg (pos n) = false
is_neg (negsuc n) = true

-- n, or -n where the flag is set
abbrev pub with_sign : Bool → ℕ → ℤ
with_sign true n = neg_ℤ (pos n)
with_sign false n = pos n

-- -2^63 ≤ z ≤ 2^63 - 1
abbrev pub fits_i64 : ℤ → Bool
fits_i64 z = le_z (negsuc 9223372036854775807) z && le_z z (pos 9223372036854775807)

-- z, stopped at -2^63 and at 2^63 - 1. (negsuc n is -(n + 1).)
abbrev pub to_i64 : ℤ → ℤ
to_i64 (pos n) = pos (min n 9223372036854775807)
to_i64 (negsuc n) = negsuc (min n 9223372036854775807)

-- the largest magnitude of an i64 with a given sign
abbrev pub most_of : Bool → ℕ
most_of true = 9223372036854775808
most_of false = 9223372036854775807
