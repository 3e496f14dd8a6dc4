-- Below k every element is what the closure gave for its index.
use Rattle.std.proofs.Common.{◌<◌, ℕ}
use Rattle.std.specs.List.{HoldsAt}
use Rattle.asking.proofs.lists.fill.Given as goal

abbrev pub invariant-loop-k : goal.invariant-loop-k
invariant-loop-k g l = (j : ℕ) → j < l.k → HoldsAt (goal.F-post g l.f j) l.space j
