-- What the walk still answers from here is what the whole answers; each line takes at least its end's byte, so there are no more lines behind than bytes.
use Rattle.std.proofs.Common.{arith}
use Rattle.form.specs.Forms.{read_walk}
use Rattle.form.proofs.Walks.{begun, turn_done, turn_next, turn_wrong}
use Rattle.form.proofs.fold.lines.Goals as goal

pub loop-place-init : goal.loop-place-init
loop-place-init c = (omega arith, begun _ _ _ c.empty-draft.ensures)

pub returns-in-Err : goal.returns-in-Err
unfolding read_walk
returns-in-Err c =
    turn_wrong _ _ _ _ c.loop-place.invariant.1 _ c.loop-place-test.true c.until-end.ensures.0 _ c.step.ensures c.in-Err.is

pub loop-place-preserved : goal.loop-place-preserved
loop-place-preserved c =
    let more = turn_next _ _ _ _ c.loop-place.invariant.1 _ c.loop-place-test.true c.until-end.ensures.0 _ c.step.ensures c.in-Ok.is in
    (omega (arith, c.loop-place.invariant.0, c.until-end.ensures), more)

pub returns : goal.returns
unfolding read_walk
returns c = turn_done c.args.text.now c.loop-place.place _ _ c.loop-place.invariant.1 (omega arith)
