-- Refused where it was said, and else written down.
use Rattle.std.proofs.Common.{sym, ◌∙◌}
use Rattle.form.specs.Drafts.{with_beats}
use Rattle.form.proofs.Saids.{said_twice, said_first}
use Rattle.form.proofs.draft.with_beats.Goals as goal

pub returns-then-is_some : goal.returns-then-is_some
unfolding with_beats
returns-then-is_some c = said_twice c.args.draft.beats _ (sym c.is_some.ensures ∙ c.if-is_some.true)

pub returns : goal.returns
unfolding with_beats
returns c = said_first c.args.draft.beats _ (sym c.is_some.ensures ∙ c.if-is_some.false)
