-- Written where the draft has room to count it.
use Rattle.std.proofs.Common.{◌≤◌, arith}
use Rattle.form.proofs.Saids.{tempos_full, tempos_more}
use Rattle.form.proofs.fold.tempo_step.Goals as goal

pub returns-then-draft-ge1024 : goal.returns-then-draft-ge1024
returns-then-draft-ge1024 c =
    let full : 1024 ≤ c.args.draft.tempos = omega arith in
    (tempos_full c.args.draft full, λ h. absurd (omega arith))

pub returns : goal.returns
returns c = (tempos_more c.args.draft (omega arith) c.more_tempos.ensures, λ h. c.tempo.ensures)
