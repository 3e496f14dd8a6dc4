-- By what the word says.
use Rattle.std.proofs.Common.{sym, ◌∙◌}
use Rattle.text.proofs.Laws.{append_as}
use Rattle.count_text.proofs.Files.{read_is, no_beat}
use Rattle.count_text.proofs.points.asked.Goals as goal

pub returns-in-Ok-clause-puts : goal.returns-in-Ok-clause-puts
returns-in-Ok-clause-puts c = append_as (read_is _ _ _ _ _ (sym c.beat.ensures ∙ c.in-Ok.is)) c.answer.ensures.puts

pub returns-in-Err-clause-puts : goal.returns-in-Err-clause-puts
returns-in-Err-clause-puts c = append_as (no_beat _ _ _ _ (sym c.beat.ensures ∙ c.in-Err.is)) c.bytes.ensures
