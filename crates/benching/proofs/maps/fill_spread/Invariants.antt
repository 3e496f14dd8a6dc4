-- The first k words are those of the first k inputs.
use Rattle.std.proofs.Common.{◌≤◌}
use Rattle.benching.specs.Maps.{points, spread_at}
use Rattle.benching.proofs.Filling.{Filled}
use Rattle.benching.proofs.maps.fill_spread.Given as goal

abbrev pub invariant-loop-k : goal.invariant-loop-k
invariant-loop-k l = Filled l.initial.questions l.questions l.k (points (spread_at l.span) l.k) × (l.k ≤ 8192)
