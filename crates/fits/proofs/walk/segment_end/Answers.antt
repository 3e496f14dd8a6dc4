-- The start before the last is looked at first; where it is refused, it is by 2.
use Rattle.std.proofs.Common.{sym, ap, ◌∙◌}
use Rattle.std.proofs.lemmas.Result.{err_from_is_err_and}
use Rattle.numbers.specs.Answers.{is_accepted}
use Rattle.fits.proofs.Walking.{segment_on, segment_off}
use Rattle.fits.proofs.walk.segment_end.Goals as goal

pub returns-in_err-bars_on : goal.returns-in_err-bars_on
returns-in_err-bars_on c =
    let p = err_from_is_err_and c.from_residual.result c.from_residual.ensures.1 in
    rw (p.1, p.2) (segment_off c.args.at c.args.len c.args.n _ _ (c.in_err-bars_on.ensures))

pub returns : goal.returns
returns c = c.bars_on-2.ensures ∙ segment_on c.args.at c.args.len c.args.n (sym (ap is_accepted (c.in_ok-bars_on.ensures)))
