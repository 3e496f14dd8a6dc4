-- Both sides of the edges, worked out: a table's rows are a question, by its words, and the answer. Each table is one statement, closed by computing.
use Rattle.std.proofs.Common.{ℕ, List, [], ◌∷◌, ℤ, pos, negsuc, refl}
use lib.Ieee.{binary32, binary64, of_bits, to_bits, round, lt, is_nan, to_unsigned, to_signed}
use Rattle.numbers.proofs.Laws.{Agree}
use Rattle.rounding.specs.Floats.{round_away, floor_of, maximum, clamp, float0, float1}

-- ---- an f64, rounded, as a u64 and as an i64

rounds : ℕ → ℕ × ℤ
unfolding of_bits round_away to_unsigned to_signed
rounds word = (to_unsigned 64 (round_away (of_bits binary64 word)), to_signed 63 (round_away (of_bits binary64 word)))

rounded : List (ℕ × (ℕ × ℤ))
rounded =
    (0x0000_0000_0000_0000, (0, pos 0))  -- 0.0
    ∷ (0x8000_0000_0000_0000, (0, pos 0))  -- -0.0
    ∷ (0x0000_0000_0000_0001, (0, pos 0))  -- 2^-1074, the least above 0
    ∷ (0x3fdf_ffff_ffff_ffff, (0, pos 0))  -- 0.49999999999999994, which plus 0.5 is 1.0 as a float
    ∷ (0x3fe0_0000_0000_0000, (1, pos 1))  -- 0.5
    ∷ (0x3ff8_0000_0000_0000, (2, pos 2))  -- 1.5
    ∷ (0x4004_0000_0000_0000, (3, pos 3))  -- 2.5
    ∷ (0xbfdf_ffff_ffff_ffff, (0, pos 0))  -- -0.49999999999999994
    ∷ (0xbfe0_0000_0000_0000, (0, negsuc 0))  -- -0.5: to -1
    ∷ (0xc004_0000_0000_0000, (0, negsuc 2))  -- -2.5: to -3
    ∷ (0x432f_ffff_ffff_ffff, (4503599627370496, pos 4503599627370496))  -- 2^52 - 0.5
    ∷ (0x43df_ffff_ffff_ffff, (9223372036854774784, pos 9223372036854774784))  -- the largest below 2^63
    ∷ (0x43e0_0000_0000_0000, (9223372036854775808, pos 9223372036854775807))  -- 2^63
    ∷ (0xc3e0_0000_0000_0000, (0, negsuc 9223372036854775807))  -- -2^63
    ∷ (0xc3e0_0000_0000_0001, (0, negsuc 9223372036854775807))  -- the next below -2^63
    ∷ (0x43ef_ffff_ffff_ffff, (18446744073709549568, pos 9223372036854775807))  -- the largest below 2^64
    ∷ (0x43f0_0000_0000_0000, (18446744073709551615, pos 9223372036854775807))  -- 2^64
    ∷ (0x7ff0_0000_0000_0000, (18446744073709551615, pos 9223372036854775807))  -- infinity
    ∷ (0xfff0_0000_0000_0000, (0, negsuc 9223372036854775807))  -- -infinity
    ∷ (0x7ff8_0000_0000_0000, (0, pos 0))  -- NaN
    ∷ (0xfff0_0000_0000_0001, (0, pos 0))  -- another NaN
    ∷ []

rounded_agree : Agree rounds rounded
unfolding rounds rounded of_bits round_away to_unsigned to_signed
rounded_agree = refl

-- ---- an f32, rounded, as a u32

rounds_f32 : ℕ → ℕ
unfolding of_bits round_away to_unsigned
rounds_f32 word = to_unsigned 32 (round_away (of_bits binary32 word))

rounded_f32 : List (ℕ × ℕ)
rounded_f32 =
    (0x3eff_ffff, 0)  -- 0.49999997, the largest below 0.5
    ∷ (0x3f00_0000, 1)  -- 0.5
    ∷ (0x3fc0_0000, 2)  -- 1.5
    ∷ (0xbf00_0000, 0)  -- -0.5
    ∷ (0x4f7f_ffff, 4294967040)  -- the largest below 2^32
    ∷ (0x4f80_0000, 4294967295)  -- 2^32
    ∷ (0x7fc0_0000, 0)  -- NaN
    ∷ []

rounded_f32_agree : Agree rounds_f32 rounded_f32
unfolding rounds_f32 rounded_f32 of_bits round_away to_unsigned
rounded_f32_agree = refl

-- ---- an f64, cut, as a u64 and a u32

cuts : ℕ → ℕ × ℕ
unfolding of_bits to_unsigned
cuts word = (to_unsigned 64 (of_bits binary64 word), to_unsigned 32 (of_bits binary64 word))

cut : List (ℕ × (ℕ × ℕ))
cut =
    (0x3fef_ffff_ffff_ffff, (0, 0))  -- the largest below 1
    ∷ (0x3ff0_0000_0000_0000, (1, 1))  -- 1
    ∷ (0x4007_3333_3333_3333, (2, 2))  -- 2.9
    ∷ (0xc007_3333_3333_3333, (0, 0))  -- -2.9
    ∷ (0x41ef_ffff_ffe0_0000, (4294967295, 4294967295))  -- 2^32 - 1
    ∷ (0x41f0_0000_0000_0000, (4294967296, 4294967295))  -- 2^32
    ∷ (0x432f_ffff_ffff_ffff, (4503599627370495, 4294967295))  -- 2^52 - 0.5
    ∷ (0x43ef_ffff_ffff_ffff, (18446744073709549568, 4294967295))  -- the largest below 2^64
    ∷ (0x43f0_0000_0000_0000, (18446744073709551615, 4294967295))  -- 2^64
    ∷ (0xfff0_0000_0000_0000, (0, 0))  -- -infinity
    ∷ (0x7ff8_0000_0000_0000, (0, 0))  -- NaN
    ∷ []

cut_agree : Agree cuts cut
unfolding cuts cut of_bits to_unsigned
cut_agree = refl

-- ---- the floor of an f64

floors : ℕ → ℕ
unfolding of_bits floor_of round to_bits
floors word = to_bits binary64 (floor_of binary64 (of_bits binary64 word))

floored : List (ℕ × ℕ)
floored =
    (0x3ff8_0000_0000_0000, 0x3ff0_0000_0000_0000)  -- 1.5: 1
    ∷ (0x3fef_ffff_ffff_ffff, 0x0000_0000_0000_0000)  -- the largest below 1: 0
    ∷ (0x0000_0000_0000_0000, 0x0000_0000_0000_0000)  -- 0: 0
    ∷ (0x8000_0000_0000_0000, 0x8000_0000_0000_0000)  -- -0: -0
    ∷ (0x8000_0000_0000_0001, 0xbff0_0000_0000_0000)  -- the largest below -0: -1
    ∷ (0xbfe0_0000_0000_0000, 0xbff0_0000_0000_0000)  -- -0.5: -1
    ∷ (0xbff0_0000_0000_0000, 0xbff0_0000_0000_0000)  -- -1: -1
    ∷ (0x432f_ffff_ffff_ffff, 0x432f_ffff_ffff_fffe)  -- 2^52 - 0.5: 2^52 - 1
    ∷ (0xc32f_ffff_ffff_ffff, 0xc330_0000_0000_0000)  -- -(2^52 - 0.5): -2^52
    ∷ (0xfff0_0000_0000_0000, 0xfff0_0000_0000_0000)  -- -infinity: -infinity
    ∷ (0x7ff8_0000_0000_0000, 0x7ff8_0000_0000_0000)  -- NaN: NaN
    ∷ []

floored_agree : Agree floors floored
unfolding floors floored of_bits floor_of round to_bits
floored_agree = refl

-- ---- a maximum of two f64, and an f32 under the bounds 0 and 1

maxima : ℕ × ℕ → ℕ
unfolding of_bits maximum is_nan lt to_bits
maxima words = to_bits binary64 (maximum (of_bits binary64 words.0) (of_bits binary64 words.1))

largest : List ((ℕ × ℕ) × ℕ)
largest =
    ((0x3ff0_0000_0000_0000, 0x4000_0000_0000_0000), 0x4000_0000_0000_0000)  -- 1, 2: 2
    ∷ ((0x4000_0000_0000_0000, 0x3ff0_0000_0000_0000), 0x4000_0000_0000_0000)  -- 2, 1: 2
    ∷ ((0x0000_0000_0000_0000, 0x8000_0000_0000_0000), 0x0000_0000_0000_0000)  -- 0, -0: 0
    ∷ ((0x8000_0000_0000_0000, 0x0000_0000_0000_0000), 0x8000_0000_0000_0000)  -- -0, 0: -0
    ∷ ((0x7ff8_0000_0000_0000, 0x3ff0_0000_0000_0000), 0x3ff0_0000_0000_0000)  -- NaN, 1: 1
    ∷ ((0x3ff0_0000_0000_0000, 0x7ff8_0000_0000_0000), 0x3ff0_0000_0000_0000)  -- 1, NaN: 1
    ∷ ((0x7ff8_0000_0000_0000, 0xfff0_0000_0000_0001), 0x7ff8_0000_0000_0000)  -- NaN, NaN: NaN
    ∷ ((0xfff0_0000_0000_0000, 0x3ff0_0000_0000_0000), 0x3ff0_0000_0000_0000)  -- -infinity, 1: 1
    ∷ []

largest_agree : Agree maxima largest
unfolding maxima largest of_bits maximum is_nan lt to_bits
largest_agree = refl

clamps : ℕ → ℕ
unfolding of_bits clamp lt to_bits
clamps word = to_bits binary32 (clamp (of_bits binary32 word) float0 float1)

clamped : List (ℕ × ℕ)
clamped =
    (0xbf80_0000, 0x0000_0000)  -- -1: 0
    ∷ (0x8000_0000, 0x8000_0000)  -- -0: -0
    ∷ (0x3f00_0000, 0x3f00_0000)  -- 0.5: 0.5
    ∷ (0x3fc0_0000, 0x3f80_0000)  -- 1.5: 1
    ∷ (0x7f80_0000, 0x3f80_0000)  -- infinity: 1
    ∷ (0xff80_0001, 0x7fc0_0000)  -- NaN: NaN, in the one word that stands for it
    ∷ []

clamped_agree : Agree clamps clamped
unfolding clamps clamped of_bits clamp lt to_bits
clamped_agree = refl
