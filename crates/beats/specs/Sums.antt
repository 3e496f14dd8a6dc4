-- Sums, differences, multiples and the order of beats, by exact products.
use Rattle.std.specs.Prelude.{ℕ, ◌*◌, Bool, cond, ◌&&◌, [], ℤ, pos, ◌+ℤ◌, ◌-ℤ◌, ◌*ℤ◌, int_lt, nat_le}
use Rattle.std.specs.declared.cmp.Ordering.{Ordering}
use Rattle.numbers.specs.Answers.{Answer, accepted, refused}
use Rattle.numbers.specs.Signs.{fits_i64}
use Rattle.numbers.specs.Exacts.{order_of}
use Rattle.beats.specs.declared.Beat.{Beat}
use Rattle.beats.specs.Beats.{new_beat, if_beat, if_beats, whole_beat}

-- ---- the test for 2

-- as they stand, before reduction, num is an i64 and den is at most 2^32 - 1
abbrev pub storable : ℤ → ℕ → Bool
storable num den = fits_i64 num && nat_le den 4294967295

-- num / den in lowest terms, or refused by 2
unfoldable pub fitted : ℤ → ℕ → Answer Beat
fitted num den = cond (storable num den) (accepted (new_beat num den)) (refused 2 [])

-- ---- sums, differences and multiples of two numbers num / den

abbrev pub add_beats : Beat → Beat → Answer Beat
add_beats a b = fitted (a.num *ℤ pos b.den +ℤ b.num *ℤ pos a.den) (a.den * b.den)

abbrev pub sub_beats : Beat → Beat → Answer Beat
sub_beats a b = fitted (a.num *ℤ pos b.den -ℤ b.num *ℤ pos a.den) (a.den * b.den)

-- a + b, of any size
unfoldable pub sum_of : Beat → Beat → Beat
sum_of a b = new_beat (a.num *ℤ pos b.den +ℤ b.num *ℤ pos a.den) (a.den * b.den)

-- a times num / den. With den 0 the denominator is 0, which becomes 1
abbrev pub mul_beat : Beat → ℤ → ℕ → Answer Beat
mul_beat a num den = fitted (a.num *ℤ num) (a.den * den)

-- ---- the order

-- the sign of a's cross product less b's
abbrev pub order_of_beats : Beat → Beat → Ordering
order_of_beats a b = order_of (a.num *ℤ pos b.den -ℤ b.num *ℤ pos a.den)

-- a's cross product is less than b's
abbrev pub below_beat : Beat → Beat → Bool
below_beat a b = int_lt (a.num *ℤ pos b.den) (b.num *ℤ pos a.den)

-- ---- the calls: 1 is tested first

abbrev pub add_answer : Beat → Beat → Answer Beat
add_answer a b = if_beats a b (add_beats a b)

abbrev pub sub_answer : Beat → Beat → Answer Beat
sub_answer a b = if_beats a b (sub_beats a b)

abbrev pub mul_answer : Beat → ℤ → ℕ → Answer Beat
mul_answer a num den = if_beat a (mul_beat a num den)

abbrev pub order_answer : Beat → Beat → Answer Ordering
order_answer a b = if_beats a b (accepted (order_of_beats a b))

-- what the bar walks make of an answer: (2^63 - 1)/1 for a refusal
abbrev pub or_most : Answer Beat → Beat
or_most (accepted beat) = beat
or_most (refused n facts) = whole_beat (pos 9223372036854775807)
