-- The score's clock, and the points that count.
use Rattle.text.proofs.Laws.{append_as}
use Rattle.sheet_text.proofs.Rows.{same_sheet}
use Rattle.sheet_text.proofs.points.sheet.Goals as goal

pub returns-clause-puts : goal.returns-clause-puts
returns-clause-puts c =
    let t = c.tempo_map.ensures in
    append_as (same_sheet c.clock.ensures c.meter.ensures.words t.nums t.dens t.tempos) c.sheet.ensures.puts
