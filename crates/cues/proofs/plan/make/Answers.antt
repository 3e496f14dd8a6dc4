-- Each way out is one of the plans.
use Rattle.std.proofs.Common.{arith, sym, ap, ◌∙◌, subst}
use Rattle.cues.specs.Plans.{straight_plan, Planned}
use Rattle.transport.proofs.Laws.{sound_position, fold_lt}
use Rattle.cues.proofs.Planning.{loop_good, before_end, past_end, no_loop}
use Rattle.cues.proofs.plan.make.Goals as goal

pub overflow_sub-left : goal.overflow_sub-left
overflow_sub-left c =
    sound_position c.args.t c.requires.fit

pub looped-requires : goal.looped-requires
looped-requires c =
    ((loop_good c.args.t c.args.frames c.requires c.in-Some.range c.in-Some.is).0, c.if-position-end.true)

-- the loop starts before its end, and the folded frame is before it: what this way out needs follows from that

pub looped-requires-else-position-end : goal.looped-requires-else-position-end
looped-requires-else-position-end c =
    let good = loop_good c.args.t c.args.frames c.requires c.in-Some.range c.in-Some.is in
    (good.0, fold_lt c.in-Some.range.start c.in-Some.range.end c.args.t.position good.0)

pub overflow_sub-position : goal.overflow_sub-position
overflow_sub-position c = omega (arith, (looped-requires-else-position-end c).0)

pub overflow_sub-end : goal.overflow_sub-end
overflow_sub-end c = omega (arith, (looped-requires-else-position-end c).0)

pub nonzero_rem-position : goal.nonzero_rem-position
nonzero_rem-position c = omega (arith, (looped-requires-else-position-end c).0)

pub returns-in-None : goal.returns-in-None
returns-in-None c = subst (Planned c.args.t c.args.frames) (sym (c.straight.ensures ∙ ap (straight_plan c.args.t.position) c.min-shorter.ensures)) (no_loop c.args.t c.args.frames c.requires c.in-None.is (sound_position c.args.t c.requires.fit))

pub returns-then-position-end : goal.returns-then-position-end
returns-then-position-end c =
    rw c.looped.ensures (before_end c.args.t c.args.frames c.requires c.in-Some.range c.in-Some.is c.if-position-end.true)

pub returns-else-position-end : goal.returns-else-position-end
returns-else-position-end c =
    rw c.looped-else-position-end.ensures (past_end c.args.t c.args.frames c.requires c.in-Some.range c.in-Some.is c.if-position-end.false)
