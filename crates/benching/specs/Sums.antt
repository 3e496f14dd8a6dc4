-- The checksum of the answers of many turns.
use Rattle.std.specs.Prelude.{ℕ, zero, suc, ◌≡◌}
use Rattle.benching.specs.Words.{mixed_of}

-- of n turns, each a step from one state to the next: turn k is asked k, and its answer goes into the sum
abbrev pub Summed : {F : Type 0} → (F → ℕ → ℕ → F → Type 0) → F → ℕ → ℕ → F → Type 0
Summed step first zero sum last = (sum ≡ 0) × (last ≡ first)
Summed {F} step first (suc n) sum last =
    (state : F) × (before : ℕ) × (answer : ℕ) × Summed step first n before state × step state n answer last × (sum ≡ mixed_of before answer)
