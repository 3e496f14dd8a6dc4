-- By the one number behind the key.
use Rattle.std.proofs.Common.{sym, ap, ◌∙◌}
use Rattle.std.proofs.lemmas.Result.{err_from_is_err_and}
use Rattle.items.specs.Items.{rate_item}
use Rattle.items.proofs.keys.rate.Goals as goal

pub returns-in_err-n : goal.returns-in_err-n
unfolding rate_item
returns-in_err-n c =
    let p = err_from_is_err_and c.from_residual.result c.from_residual.ensures.1 in
    rw (p.1, p.2) (ap rate_item (sym c.in_err-n.was ∙ c.sole.ensures))

pub returns : goal.returns
unfolding rate_item
returns c = ap rate_item (sym c.in_ok-n.was ∙ c.sole.ensures)
