-- By what the word says.
use Rattle.std.proofs.Common.{sym, ap, ◌∙◌}
use Rattle.std.proofs.lemmas.Result.{err_from_is_err_and}
use Rattle.items.specs.Items.{beat_value}
use Rattle.items.proofs.values.beat.Goals as goal

pub returns-in_err-beat : goal.returns-in_err-beat
unfolding beat_value
returns-in_err-beat c =
    let p = err_from_is_err_and c.from_residual.result c.from_residual.ensures.1 in
    rw (p.1, p.2) (ap beat_value (sym c.in_err-beat.was ∙ c.beat.ensures))

pub returns : goal.returns
unfolding beat_value
returns c = ap beat_value (sym c.in_ok-beat.was ∙ c.beat.ensures)
