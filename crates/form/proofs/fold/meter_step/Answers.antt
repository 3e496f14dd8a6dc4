-- Written where the draft has room to count it.
use Rattle.std.proofs.Common.{◌≤◌, arith}
use Rattle.form.proofs.Saids.{meters_full, meters_more}
use Rattle.form.proofs.fold.meter_step.Goals as goal

pub returns-then-draft-ge256 : goal.returns-then-draft-ge256
returns-then-draft-ge256 c =
    let full : 256 ≤ c.args.draft.meters = omega arith in
    (meters_full c.args.draft full, λ h. absurd (omega arith))

pub returns : goal.returns
returns c = (meters_more c.args.draft (omega arith) c.more_meters.ensures, λ h. c.meter.ensures)
