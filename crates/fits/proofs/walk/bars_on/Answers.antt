-- The length is scaled, and then added.
use Rattle.std.proofs.Common.{sym, ap, ◌∙◌, arith, ℤ}
use Rattle.std.proofs.lemmas.Result.{err_from_is_err_and}
use Rattle.numbers.proofs.Laws.{read_pos}
use Rattle.beats.specs.Sums.{mul_beat}
use Rattle.fits.proofs.Walking.{bars_done, bars_refused}
use Rattle.fits.proofs.walk.bars_on.Goals as goal

pub returns-in_err-mul : goal.returns-in_err-mul
returns-in_err-mul c =
    let p = err_from_is_err_and c.from_residual.result c.from_residual.ensures.1 in
    rw (p.1, p.2) (bars_refused c.args.at c.args.len c.args.n _ _ (sym (c.in_err-mul.ensures ∙ ap (λ (z : ℤ). mul_beat c.args.len z 1) (read_pos c.args.n (omega arith)))))

pub returns : goal.returns
returns c =
    bars_done c.args.at c.args.len c.args.n _ _ (sym (c.in_ok-mul.ensures ∙ ap (λ (z : ℤ). mul_beat c.args.len z 1) (read_pos c.args.n (omega arith)))) c.add.ensures
