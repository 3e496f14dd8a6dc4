-- What the call without the sort answers, and its notes sorted where they lie.
use Rattle.std.proofs.Common.{◌≡◌, Err, rules}
use Rattle.pattern.proofs.Sorting.{err_sorted, ok_sorted}
use Rattle.pattern.proofs.mapping.each_sorted.Goals as goal

pub returns-in_err-wrote : goal.returns-in_err-wrote
returns-in_err-wrote g c = λ how gives.
    let why = c.in_err-wrote.field-0.0 in
    let e : c.from_residual.result ≡ Err why = search rules in
    rw e (err_sorted how c.args.p c.args.words.now c.args.out.now c.each.new.out why (c.in_err-wrote.ensures.outcome how gives))

pub returns : goal.returns
returns g c = λ how gives.
    ok_sorted how c.args.p c.args.words.now c.args.out.now c.each.new.out c.in_ok-wrote.wrote c.sort_by_step.new.words c.in_ok-wrote.ensures.whole c.sort_by_step.ensures (c.in_ok-wrote.ensures.outcome how gives)
