-- The record is found where the tempo is not sound.
use Rattle.problems.specs.Problems.{tempo_bits}
use Rattle.problems.proofs.changes.own.Goals as goal

pub note-requires : goal.note-requires
unfolding tempo_bits
note-requires c = rw c.sound_tempo.ensures c.requires

pub returns : goal.returns
unfolding tempo_bits
returns c = rw c.sound_tempo.ensures at c.note.ensures
