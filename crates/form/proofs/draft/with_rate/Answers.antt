-- Refused where it was said, and else written down.
use Rattle.std.proofs.Common.{sym, ◌∙◌}
use Rattle.form.specs.Drafts.{with_rate}
use Rattle.form.proofs.Saids.{said_twice, said_first}
use Rattle.form.proofs.draft.with_rate.Goals as goal

pub returns-then-is_some : goal.returns-then-is_some
unfolding with_rate
returns-then-is_some c = said_twice c.args.draft.rate _ (sym c.is_some.ensures ∙ c.if-is_some.true)

pub returns : goal.returns
unfolding with_rate
returns c = said_first c.args.draft.rate _ (sym c.is_some.ensures ∙ c.if-is_some.false)
