-- The value of a beat, in which the laws of sums and of the order are stated.
use Rattle.std.specs.Prelude.{◌≡◌, ℕ, ℤ, pos, ◌*ℤ◌}
use Rattle.beats.specs.declared.Beat.{Beat}

-- the beat is the number num / den
abbrev pub Worth : Beat → ℤ → ℕ → Type 0
Worth beat num den = beat.num *ℤ pos den ≡ num *ℤ pos beat.den
