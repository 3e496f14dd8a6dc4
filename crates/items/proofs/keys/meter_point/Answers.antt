-- A bad bar is told first.
use Rattle.std.proofs.Common.{ℕ, Result, sym, ap, ◌∙◌}
use Rattle.std.proofs.lemmas.Result.{err_from_is_err_and}
use Rattle.items.specs.declared.Reason.{Reason}
use Rattle.items.specs.Items.{bar_by, meter_point}
use Rattle.items.proofs.keys.meter_point.Goals as goal

pub returns-in_err-bar : goal.returns-in_err-bar
unfolding bar_by meter_point
returns-in_err-bar c =
    let p = err_from_is_err_and c.from_residual.result c.from_residual.ensures.1 in
    rw (p.1, p.2) (ap (λ (v : Result ℕ Reason). bar_by v c.args.word.now) (sym c.in_err-bar.was ∙ c.number.ensures))

pub returns : goal.returns
unfolding bar_by meter_point
returns c =
    c.meter_over.ensures ∙ ap (λ (v : Result ℕ Reason). bar_by v c.args.word.now) (sym c.in_ok-bar.was ∙ c.number.ensures)
