-- By the first slash, and by the numbers before and behind it.
use Rattle.std.proofs.Common.{refl, sym, ◌∙◌}
use Rattle.std.proofs.lemmas.Result.{err_from_is_err_and}
use Rattle.items.proofs.Tests.{no_slash, over_is}
use Rattle.items.specs.Items.{meter_by}
use Rattle.items.proofs.keys.meter_over.Goals as goal

pub returns-then-slash-word : goal.returns-then-slash-word
returns-then-slash-word c = no_slash _ _ _ c.until-slash.ensures.0 c.if-slash-word.true

pub returns-in_err-num : goal.returns-in_err-num
unfolding meter_by
returns-in_err-num c =
    let p = err_from_is_err_and c.from_residual.result c.from_residual.ensures.1 in
    rw (p.1, p.2) (over_is _ _ _ c.until-slash.ensures.0 c.if-slash-word.false (sym c.in_err-num.was ∙ c.number.ensures) refl)

pub returns-in_err-den : goal.returns-in_err-den
unfolding meter_by
returns-in_err-den c =
    let p = err_from_is_err_and c.from_residual-in_err-den.result c.from_residual-in_err-den.ensures.1 in
    rw (p.1, p.2) (over_is _ _ _ c.until-slash.ensures.0 c.if-slash-word.false (sym c.in_ok-num.was ∙ c.number.ensures) (sym c.in_err-den.was ∙ c.number-2.ensures))

pub returns : goal.returns
unfolding meter_by
returns c =
    over_is _ _ _ c.until-slash.ensures.0 c.if-slash-word.false (sym c.in_ok-num.was ∙ c.number.ensures) (sym c.in_ok-den.was ∙ c.number-2.ensures)
