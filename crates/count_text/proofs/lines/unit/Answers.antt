-- One bar, or another number of them.
use Rattle.text.proofs.Laws.{append_as}
use Rattle.count_text.proofs.Parts.{one_bar_lem, more_bars}
use Rattle.count_text.proofs.lines.unit.Goals as goal

pub returns-then-count-eq1-clause-puts : goal.returns-then-count-eq1-clause-puts
returns-then-count-eq1-clause-puts c = append_as (one_bar_lem _ c.if-count-eq1.true) c.bytes.ensures

pub returns-else-count-eq1-clause-puts : goal.returns-else-count-eq1-clause-puts
returns-else-count-eq1-clause-puts c = append_as (more_bars _ c.if-count-eq1.false) c.bytes-else-count-eq1.ensures
