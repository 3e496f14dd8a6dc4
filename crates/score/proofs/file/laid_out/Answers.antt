-- The words read are those of the definition.
use Rattle.score.proofs.Places.{laid_is}
use Rattle.score.proofs.file.laid_out.Goals as goal

pub returns : goal.returns
returns c =
    laid_is _ c.laid_out_by.ensures c.word_at-edition.ensures c.word_at-meters.ensures c.word_at-meter_offset.ensures c.word_at-tempos.ensures
    c.word_at-tempo_offset.ensures c.word_at-total.ensures
