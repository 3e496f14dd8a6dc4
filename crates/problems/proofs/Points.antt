-- The records of a point, by whether it is the first.
use mathlib.Core.Path.{◌≡◌}
use mathlib.Core.List.{[], ◌++◌}
use Prim.Native.Nat.{ℕ}
use borrow.Author.Tests.{eq-eqb, ne_eqb}
use Rattle.beats.specs.declared.Beat.{Beat}
use Rattle.problems.specs.Problems.{Listed, many_meters, later_bar}
use Rattle.problems.specs.Passes.{tempo_first, tempo_later, tempo_at, meter_head}

pub head_first : (n index bar : ℕ) → index ≡ 0 → meter_head n index bar ≡ many_meters n ++ later_bar bar
unfolding meter_head
head_first n index bar e = rw (eq-eqb index 0 e)

pub head_later : (n index bar : ℕ) → (index ≡ 0 → ⊥) → meter_head n index bar ≡ []
unfolding meter_head
head_later n index bar e = rw (ne_eqb index 0 e)

pub tempo_first_lem : (n index : ℕ) (before : Beat) (point : Listed) → index ≡ 0 → tempo_at n index before point ≡ tempo_first n point
unfolding tempo_at
tempo_first_lem n index before point e = rw (eq-eqb index 0 e)

pub tempo_later_lem : (n index : ℕ) (before : Beat) (point : Listed) → (index ≡ 0 → ⊥) → tempo_at n index before point ≡ tempo_later index before point
unfolding tempo_at
tempo_later_lem n index before point e = rw (ne_eqb index 0 e)
