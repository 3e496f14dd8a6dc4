-- The first 3 * k words are those of the first k points, and r is the number that the next one begins with.
use Rattle.std.proofs.Common.{◌≡◌, ◌-◌, ◌*◌, ◌≤◌}
use Rattle.benching.specs.Words.{random}
use Rattle.benching.specs.Maps.{points, meter_point}
use Rattle.benching.proofs.Filling.{Filled}
use Rattle.benching.proofs.maps.meter_words.Given as goal

abbrev pub invariant-loop-k : goal.invariant-loop-k
invariant-loop-k l = Filled l.initial.map l.map (3 * l.k) (points meter_point l.k) × (l.k ≤ 4096) × (l.r ≡ random (2 * l.k))

abbrev pub decreases-loop-k : goal.decreases-loop-k
decreases-loop-k l = 4096 - l.k
