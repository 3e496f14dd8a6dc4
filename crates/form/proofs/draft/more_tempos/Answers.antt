-- As defined.
use Rattle.std.proofs.Common.{refl}
use Rattle.form.specs.Drafts.{more_tempos}
use Rattle.form.proofs.draft.more_tempos.Goals as goal

pub returns : goal.returns
unfolding more_tempos
returns c = refl
