-- The maps and the questions that the rows share, point by point.
use Rattle.std.specs.Prelude.{ℕ, zero, suc, ◌+◌, ◌-◌, ◌*◌, ◌/◌, ◌%◌, ◌^◌, min, List, [], ◌∷◌, ◌++◌, ℤ, pos}
use Rattle.benching.specs.Words.{random, place_of}

-- what points 0, 1 and so on hold, one after the other: n points
unfoldable pub points : {A : Type 0} → (ℕ → List A) → ℕ → List A
points at zero = []
points at (suc n) = points at n ++ at n

-- a denominator that scores have: 2, 4, 8 or 16
abbrev pub denominator_of : ℕ → ℕ
denominator_of x = 2 ^ (x % 4 + 1)

-- point k of the meter map: its bar, a numerator from 1 to 8, and a denominator. It takes two numbers of the sequence
abbrev pub meter_point : ℕ → List ℕ
meter_point k = (4 * k) ∷ (random (2 * k) % 8 + 1) ∷ denominator_of (random (2 * k + 1)) ∷ []

-- point k of the tempo map: its beat, and the bits of its tempo, from 64 up to 256. It takes two numbers too, and uses one
abbrev pub tempo_num : ℕ → List ℤ
tempo_num k = pos (4 * k) ∷ []

abbrev pub tempo_bits : ℕ → List ℕ
tempo_bits k = (0x42800000 + random (2 * k) % 2 ^ 24) ∷ []

-- question k: so much of the span as the place of input k is of all places, or 2^32 - 1 where that is less
abbrev pub spread_at : ℕ → ℕ → List ℕ
spread_at span k = min (place_of k * span / 8192) (2 ^ 32 - 1) ∷ []
