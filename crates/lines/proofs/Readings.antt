-- A frame has one place among lines.
use Rattle.std.proofs.Common.{◌≡◌, List, ℕ, le_refl, arith}
use Rattle.lines.specs.Places.{Splits}
use Rattle.lines.proofs.Ranges.{places_rise}

pub one_place : (frame : ℕ) (lines : List ℕ) (a b : ℕ) → Splits frame lines a → Splits frame lines b → a ≡ b
one_place frame lines a b s t =
    let rise = places_rise frame frame (le_refl frame) lines in
    omega (arith, rise a b s t, rise b a t s)
