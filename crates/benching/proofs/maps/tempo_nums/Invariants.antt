-- The first k numbers are those of the first k points.
use Rattle.std.proofs.Common.{◌≤◌}
use Rattle.benching.specs.Maps.{points, tempo_num}
use Rattle.benching.proofs.Filling.{Filled}
use Rattle.benching.proofs.maps.tempo_nums.Given as goal

abbrev pub invariant-loop-k : goal.invariant-loop-k
invariant-loop-k l = Filled l.initial.num-items l.num-items l.k (points tempo_num l.k) × (l.k ≤ 1024)
