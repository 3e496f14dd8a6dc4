-- Refused where it was said, and else written down.
use Rattle.std.proofs.Common.{sym, ◌∙◌}
use Rattle.form.specs.Drafts.{with_pickup}
use Rattle.form.proofs.Saids.{said_twice, said_first}
use Rattle.form.proofs.draft.with_pickup.Goals as goal

pub returns-then-is_some : goal.returns-then-is_some
unfolding with_pickup
returns-then-is_some c = said_twice c.args.draft.pickup _ (sym c.is_some.ensures ∙ c.if-is_some.true)

pub returns : goal.returns
unfolding with_pickup
returns c = said_first c.args.draft.pickup _ (sym c.is_some.ensures ∙ c.if-is_some.false)
