-- The words read are those of the definition.
use Rattle.score.specs.Format.{score_of}
use Rattle.score.proofs.file.header.Goals as goal

pub returns : goal.returns
unfolding score_of
returns c =
    rw (c.word_at-rate.ensures, c.word_at-beats.ensures, c.word_at-bpm.ensures, c.pickup_of-pickup.ensures, c.word_at-meters.ensures, c.word_at-tempos.ensures)
