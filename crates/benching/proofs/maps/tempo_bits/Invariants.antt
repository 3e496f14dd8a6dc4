-- The first k words are those of the first k points, and r is the number that the next one is made of.
use Rattle.std.proofs.Common.{◌≡◌, ◌*◌, ◌≤◌}
use Rattle.benching.specs.Words.{random}
use Rattle.benching.specs.Maps.{points, tempo_bits}
use Rattle.benching.proofs.Filling.{Filled}
use Rattle.benching.proofs.maps.tempo_bits.Given as goal

abbrev pub invariant-loop-tempo : goal.invariant-loop-tempo
invariant-loop-tempo l = Filled l.initial.tempo-items l.tempo-items l.tempo-index (points tempo_bits l.tempo-index) × (l.tempo-index ≤ 1024) × (l.r ≡ random (2 * l.tempo-index))
