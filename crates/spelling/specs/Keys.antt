-- The words that begin a line of the text form of a score, as ASCII bytes.
use Rattle.std.specs.Prelude.{ℕ, List, [], ◌∷◌}

-- `rate`
abbrev pub rate_key : List ℕ
rate_key = 114 ∷ 97 ∷ 116 ∷ 101 ∷ []

-- `beats`
abbrev pub beats_key : List ℕ
beats_key = 98 ∷ 101 ∷ 97 ∷ 116 ∷ 115 ∷ []

-- `tempo`
abbrev pub tempo_key : List ℕ
tempo_key = 116 ∷ 101 ∷ 109 ∷ 112 ∷ 111 ∷ []

-- `pickup`
abbrev pub pickup_key : List ℕ
pickup_key = 112 ∷ 105 ∷ 99 ∷ 107 ∷ 117 ∷ 112 ∷ []

-- `meter`
abbrev pub meter_key : List ℕ
meter_key = 109 ∷ 101 ∷ 116 ∷ 101 ∷ 114 ∷ []
