-- Beats: exact fractions of a beat, in lowest terms.
use Rattle.std.specs.Prelude.{ℕ, ◌/◌, max, Bool, cond, ◌&&◌, [], ℤ, pos, ◌==◌, int_div, nat_lt, unsigned_abs}
use Rattle.numbers.specs.Answers.{Answer, refused}
use Rattle.numbers.specs.Divisor.{gcd_of}
use Rattle.beats.specs.declared.Beat.{Beat}

-- num and den, each divided by the divisor
abbrev pub divided_by : ℤ → ℕ → ℕ → Beat
divided_by num den divisor = record { num = int_div num (pos divisor); den = den / divisor }

-- num / den in lowest terms: both are divided by their greatest common divisor. (0 / den comes out as 0 / 1, since the divisor is den.)
unfoldable pub lowest : ℤ → ℕ → Beat
lowest num den = divided_by num den (gcd_of (unsigned_abs num) den)

-- the same of any two numbers: a denominator 0 becomes 1
unfoldable pub new_beat : ℤ → ℕ → Beat
new_beat num den = lowest num (max den 1)

-- n whole beats
abbrev pub whole_beat : ℤ → Beat
whole_beat n = record { num = n; den = 1 }

abbrev pub zero_beat : Beat
zero_beat = whole_beat (pos 0)

-- a beat: its denominator is not 0, and it is in lowest terms
abbrev pub is_beat : Beat → Bool
is_beat beat = nat_lt 0 beat.den && gcd_of (unsigned_abs beat.num) beat.den == 1

-- an answer that looks at a beat, and one that looks at two: refused by 1 where one is none
abbrev pub if_beat : {A : Type 0} → Beat → Answer A → Answer A
if_beat beat answer = cond (is_beat beat) answer (refused 1 [])

abbrev pub if_beats : {A : Type 0} → Beat → Beat → Answer A → Answer A
if_beats a b answer = cond (is_beat a && is_beat b) answer (refused 1 [])
