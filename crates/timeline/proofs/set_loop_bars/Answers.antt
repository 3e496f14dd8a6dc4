-- The test's refusals; else the answer is that of the loop between the two frames.
use Rattle.std.proofs.Common.{ap, ◌∙◌}
use Rattle.transport.specs.Changes.{handed}
use Rattle.transport.specs.Readings.{read_handed}
use Rattle.timeline.proofs.Testing.{refuses, accepts}
use Rattle.timeline.proofs.set_loop_bars.Goals as goal

pub returns-in-Err : goal.returns-in-Err
returns-in-Err c = ap read_handed c.refused.ensures ∙ ap (handed c.args.t) (refuses _ _ _ c.in-Err.ensures.test)

pub returns-in-Ok : goal.returns-in-Ok
returns-in-Ok c =
    let l = c.in-Ok.ensures.lists in
    let t = c.in-Ok.ensures.test in
    rw (c.looped.ensures, c.frame_at_bar-from.ensures, c.frame_at_bar-to.ensures, l.0, l.1, l.2) (ap (handed c.args.t) (accepts _ _ _ t))
