-- The points before k are stored, and the words of the others are left.
use Rattle.std.proofs.Common.{◌≡◌}
use Rattle.points.proofs.Filling.{Filled}
use Rattle.points.proofs.problems_within.Given as goal

abbrev pub invariant-loop-k : goal.invariant-loop-k
invariant-loop-k g l = record { by_three : l.k-iterator.iter.size ≡ 3; filled : Filled g.row.N l.k-iterator.count l.words l.points l.k-iterator.iter.rest.now }
