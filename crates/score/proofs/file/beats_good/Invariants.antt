-- The points that are left are good exactly where all are, since those behind are.
use Rattle.std.proofs.Common.{◌≡◌}
use Rattle.score.specs.Format.{tempo_offset, tempo_count, beats_good}
use Rattle.score.proofs.Chunks.{all_good}
use Rattle.score.proofs.file.beats_good.Given as goal

abbrev pub invariant-loop-point : goal.invariant-loop-point
invariant-loop-point l =
    (l.point-iterator.size ≡ 16) × (all_good l.point-iterator.rest.now ≡ beats_good l.bytes (tempo_offset l.bytes) (tempo_count l.bytes))
