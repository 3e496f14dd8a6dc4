-- Whole numbers past 64 bits: two words, and a sign with two words.
use Rattle.std.specs.Prelude.{ℕ, zero, suc, ◌+◌, ◌*◌, ◌/◌, ◌%◌, ◌^◌, ℤ, pos, negsuc, nat_abs}
use Rattle.numbers.specs.declared.exact.Wide.{Wide}
use Rattle.numbers.specs.declared.exact.Exact.{Exact}
use Rattle.std.specs.declared.cmp.Ordering.{Ordering}
use Rattle.std.specs.declared.cmp.Ordering.TheVariants.{Less, Equal, Greater}
use Rattle.numbers.specs.Signs.{is_neg, with_sign}

-- the number that two words are
abbrev pub size_of : Wide → ℕ
size_of w = w.hi * 2 ^ 64 + w.lo

-- the two words of a number
abbrev pub wide_of : ℕ → Wide
wide_of n = record { hi = n / 2 ^ 64; lo = n % 2 ^ 64 }

-- the number
unfoldable pub value_of : Exact → ℤ
value_of e = with_sign e.neg (size_of e.size)

-- the sign and the two words of a number
unfoldable pub exact_of : ℤ → Exact
exact_of z = record { neg = is_neg z; size = wide_of (nat_abs z) }

-- where a number stands to 0
abbrev pub order_of : ℤ → Ordering
order_of (negsuc n) = Less
order_of (pos zero) = Equal
order_of (pos (suc n)) = Greater
