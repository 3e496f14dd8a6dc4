-- By whether the score fits.
use Rattle.text.proofs.Laws.{append_as}
use Rattle.count_text.proofs.Parts.{sure, unsure}
use Rattle.count_text.proofs.lines.fits_line.Goals as goal

pub returns-then-fits-clause-puts : goal.returns-then-fits-clause-puts
returns-then-fits-clause-puts c = append_as (sure _ c.if-fits.true) c.bytes.ensures

pub returns-else-fits-clause-puts : goal.returns-else-fits-clause-puts
returns-else-fits-clause-puts c = append_as (unsure _ c.if-fits.false) c.bytes-else-fits.ensures
