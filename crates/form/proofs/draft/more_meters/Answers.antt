-- As defined.
use Rattle.std.proofs.Common.{refl}
use Rattle.form.specs.Drafts.{more_meters}
use Rattle.form.proofs.draft.more_meters.Goals as goal

pub returns : goal.returns
unfolding more_meters
returns c = refl
