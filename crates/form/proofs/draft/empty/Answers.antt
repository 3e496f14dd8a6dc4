-- As defined.
use Rattle.std.proofs.Common.{refl}
use Rattle.form.specs.Drafts.{empty}
use Rattle.form.proofs.draft.empty.Goals as goal

pub returns : goal.returns
unfolding empty
returns c = refl
