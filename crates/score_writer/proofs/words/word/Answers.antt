-- The four bytes are those of the definition.
use Rattle.std.proofs.Common.{◌∙◌}
use Rattle.text.proofs.Laws.{append_as}
use Rattle.score_writer.proofs.Putting.{word_is}
use Rattle.score_writer.proofs.words.word.Goals as goal

pub returns : goal.returns
returns c = append_as (c.to_le_bytes.ensures ∙ word_is c.args.word) c.bytes.ensures
