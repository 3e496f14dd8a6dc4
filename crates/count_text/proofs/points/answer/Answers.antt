-- The lines are those of what was worked out.
use Rattle.text.proofs.Laws.{append_as}
use Rattle.count_text.proofs.Files.{answer_is}
use Rattle.count_text.proofs.points.answer.Goals as goal

pub returns-clause-puts : goal.returns-clause-puts
returns-clause-puts c = append_as (answer_is _ _ _ _ c.elapsed-bars.ensures c.decide-fits.ensures) c.lines.ensures.puts
