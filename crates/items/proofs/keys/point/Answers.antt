-- A bad beat is told first, then a bad tempo.
use Rattle.std.proofs.Common.{refl, sym, ◌∙◌}
use Rattle.std.proofs.lemmas.Result.{err_from_is_err_and}
use Rattle.items.proofs.Tests.{point_is}
use Rattle.items.specs.Items.{point_by}
use Rattle.items.proofs.keys.point.Goals as goal

pub returns-in_err-beat : goal.returns-in_err-beat
unfolding point_by
returns-in_err-beat c =
    let p = err_from_is_err_and c.from_residual.result c.from_residual.ensures.1 in
    rw (p.1, p.2) (point_is _ c.args.word.now (sym c.in_err-beat.was ∙ c.beat.ensures) refl)

pub returns-in_err-bits : goal.returns-in_err-bits
unfolding point_by
returns-in_err-bits c =
    let p = err_from_is_err_and c.from_residual-in_err-bits.result c.from_residual-in_err-bits.ensures.1 in
    rw (p.1, p.2) (point_is _ _ (sym c.in_ok-beat.was ∙ c.beat.ensures) (sym c.in_err-bits.was ∙ c.tempo.ensures))

pub returns : goal.returns
unfolding point_by
returns c =
    point_is _ _ (sym c.in_ok-beat.was ∙ c.beat.ensures) (sym c.in_ok-bits.was ∙ c.tempo.ensures)
