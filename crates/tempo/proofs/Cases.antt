-- The edges of the walks, worked out on small maps: a table's rows are a question and its answer. Each table is one statement, closed by computing.
use mathlib.Core.Path.{refl}
use mathlib.Core.List.{List, [], ◌∷◌}
use Prim.Native.Nat.{ℕ}
use lib.IntN.{ℤ, pos, negsuc}
use lib.Ieee.{binary64, of_bits, to_bits, is_nan, of_int, add, sub, mul, div, lt, le}
use Rattle.numbers.specs.Answers.{number, Agree}
use Rattle.numbers.specs.Divisor.{gcd_of, remainders}
use Rattle.rounding.specs.Floats.{maximum, float0}
use Rattle.tempo.specs.Tempos.{TempoPoint, tempo_points, walk, whole_walk, seconds_at_beat, tempo_at_beat, beat_at_seconds}
use Rattle.tempo.specs.Answers.{all_beats, map_test, seconds_answer}

-- ---- by the bits of a beat: the bits of the seconds, and those of the tempo

at_beat : List TempoPoint → ℕ → ℕ × ℕ
at_beat points word = (to_bits binary64 (seconds_at_beat points (of_bits binary64 word)), to_bits binary64 (tempo_at_beat points (of_bits binary64 word)))

-- 120 from beat 0 and 60 from beat 4
abbrev two : List TempoPoint
two = tempo_points (pos 0 ∷ pos 4 ∷ []) (1 ∷ 1 ∷ []) (0x42f0_0000 ∷ 0x4270_0000 ∷ [])

beats : List (ℕ × (ℕ × ℕ))
beats =
    (0x0000_0000_0000_0000, (0x0000_0000_0000_0000, 0x405e_0000_0000_0000))  -- 0: 0 seconds, 120
    ∷ (0x4000_0000_0000_0000, (0x3ff0_0000_0000_0000, 0x405e_0000_0000_0000))  -- 2: 1 second, 120
    ∷ (0x400f_ffff_ffff_ffff, (0x3fff_ffff_ffff_ffff, 0x405e_0000_0000_0000))  -- the last before 4: 120 still
    ∷ (0x4010_0000_0000_0000, (0x4000_0000_0000_0000, 0x404e_0000_0000_0000))  -- 4: 2 seconds, and 60 already
    ∷ (0x4020_0000_0000_0000, (0x4018_0000_0000_0000, 0x404e_0000_0000_0000))  -- 8: 6 seconds, 60
    ∷ (0xbff0_0000_0000_0000, (0xbfe0_0000_0000_0000, 0x405e_0000_0000_0000))  -- -1: -0.5 seconds, 120
    ∷ (0x7ff8_0000_0000_0000, (0x7ff8_0000_0000_0000, 0x404e_0000_0000_0000))  -- NaN passes every point: NaN, 60
    ∷ []

beats_agree : Agree (at_beat two) beats
unfolding at_beat beats tempo_points walk whole_walk of_bits to_bits of_int add sub mul div lt le is_nan maximum
beats_agree = refl

-- 120, then 60 from beat 8, then 240 from beat 4: the points are passed as they stand, so beat 9 goes back from 8 to 4
abbrev unsorted : List TempoPoint
unsorted = tempo_points (pos 0 ∷ pos 8 ∷ pos 4 ∷ []) (1 ∷ 1 ∷ 1 ∷ []) (0x42f0_0000 ∷ 0x4270_0000 ∷ 0x4370_0000 ∷ [])

back : List (ℕ × (ℕ × ℕ))
back =
    (0x4018_0000_0000_0000, (0x4008_0000_0000_0000, 0x405e_0000_0000_0000))  -- 6: 3 seconds, 120
    ∷ (0x4022_0000_0000_0000, (0x3ff4_0000_0000_0000, 0x406e_0000_0000_0000))  -- 9: 4 - 4 + 1.25 seconds, 240
    ∷ []

back_agree : Agree (at_beat unsorted) back
unfolding at_beat back tempo_points walk whole_walk of_bits to_bits of_int add sub mul div lt le is_nan maximum
back_agree = refl

-- ---- by the bits of a tempo, from beat 2 on: the seconds and the tempo at beat 1, the walk beginning at beat 0 all the same

from_two : ℕ → ℕ × ℕ
from_two bits = at_beat (tempo_points (pos 2 ∷ []) (1 ∷ []) (bits ∷ [])) 0x3ff0_0000_0000_0000

tempos : List (ℕ × (ℕ × ℕ))
tempos =
    (0x42f0_0000, (0x3fe0_0000_0000_0000, 0x405e_0000_0000_0000))  -- 120: 0.5 seconds
    ∷ (0x7fc0_0000, (0x404e_0000_0000_0000, 0x3ff0_0000_0000_0000))  -- NaN counts as 1: 60 seconds
    ∷ (0x3f00_0000, (0x404e_0000_0000_0000, 0x3ff0_0000_0000_0000))  -- 0.5 too
    ∷ (0xff80_0000, (0x404e_0000_0000_0000, 0x3ff0_0000_0000_0000))  -- -infinity too
    ∷ (0x7f80_0000, (0x0000_0000_0000_0000, 0x7ff0_0000_0000_0000))  -- infinity stays: 0 seconds
    ∷ []

tempos_agree : Agree from_two tempos
unfolding from_two at_beat tempos tempo_points walk whole_walk of_bits to_bits of_int add sub mul div lt le is_nan maximum
tempos_agree = refl

-- ---- by the bits of a second: the bits of the beat

at_second : ℕ → ℕ
at_second word = to_bits binary64 (beat_at_seconds two (of_bits binary64 word))

seconds : List (ℕ × ℕ)
seconds =
    (0x3ff0_0000_0000_0000, 0x4000_0000_0000_0000)  -- 1: beat 2
    ∷ (0x4000_0000_0000_0000, 0x4010_0000_0000_0000)  -- 2: beat 4
    ∷ (0x4008_0000_0000_0000, 0x4014_0000_0000_0000)  -- 3: beat 5
    ∷ (0x7ff8_0000_0000_0000, 0x7ff8_0000_0000_0000)  -- NaN
    ∷ []

seconds_agree : Agree at_second seconds
unfolding at_second seconds tempo_points walk whole_walk of_bits to_bits of_int add sub mul div lt le is_nan maximum
seconds_agree = refl

-- ---- by a map: the number of the refusal, 0 for none. The first row that gives 3 breaks the rule of 1 as well, and the second that of 5

refusal : List ℤ × (List ℕ × List ℕ) → ℕ
refusal lists = number (seconds_answer lists.0 lists.1.0 lists.1.1 float0)

refusals : List ((List ℤ × (List ℕ × List ℕ)) × ℕ)
refusals =
    ((pos 1 ∷ [], (2 ∷ [], 0 ∷ [])), 0)
    ∷ ((pos 2 ∷ [], (2 ∷ [], [])), 3)  -- no tempo for 2/2
    ∷ (([], (1 ∷ [], [])), 3)  -- a denominator for no numerator
    ∷ ((pos 2 ∷ [], (2 ∷ [], 0 ∷ [])), 1)  -- 2/2 is not in lowest terms
    ∷ ((pos 0 ∷ negsuc 0 ∷ [], (1 ∷ 0 ∷ [], 0 ∷ 0 ∷ [])), 1)  -- -1/0
    ∷ (([], ([], [])), 5)
    ∷ []

refusals_agree : Agree refusal refusals
unfolding refusal refusals map_test all_beats gcd_of remainders tempo_points walk whole_walk
refusals_agree = refl
