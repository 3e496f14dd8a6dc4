-- The loop keeps the marks of the points passed.
use Rattle.std.proofs.Common.{ℕ, [], length, refl, subst, arith}
use Rattle.meter.specs.Meters.{points_of}
use Rattle.filler.specs.Numbers.{Marked}
use Rattle.filler.proofs.Marking.{number_fits, marking_none, marking_end, marking_set, marking_beyond}
use Rattle.filler.proofs.marks.mark.Goals as goal

pub loop-point-init : goal.loop-point-init
loop-point-init c =
    let n = length c.clear.new.out in
    let marked : Marked [] n c.clear.new.out = record { long = refl; marks = λ bar l. c.clear.ensures.marks bar (omega (arith, c.clear.ensures.long)) } in
    rw (c.into_iter-point-iterator.ensures.into_iter_gives, c.new-point-items.ensures) (marking_none c.args.words.now n c.clear.new.out marked)

pub overflow_add-number : goal.overflow_add-number
overflow_add-number c = record { fits = omega (arith, number_fits c.args.words.now _ _ _ _ c.loop-point.invariant) }

pub loop-point-preserved-then-bar-out : goal.loop-point-preserved-then-bar-out
loop-point-preserved-then-bar-out c =
    marking_set c.args.words.now _ _ _ _ c.loop-point.invariant c.in-Some.point _ c.in-Some.ensures.steps (omega (arith, c.if-bar-out.true, c.loop-point.invariant.long))

pub loop-point-preserved : goal.loop-point-preserved
loop-point-preserved c =
    marking_beyond c.args.words.now _ _ _ _ c.loop-point.invariant c.in-Some.point _ c.in-Some.ensures.steps (omega (arith, c.if-bar-out.false, c.loop-point.invariant.long))

pub returns : goal.returns
returns c =
    subst (λ (n : ℕ). Marked (points_of c.args.words.now) n c.loop-point.out) c.clear.ensures.long
    (marking_end c.args.words.now (length c.clear.new.out) c.loop-point.number _ c.loop-point.out c.loop-point.invariant c.in-None.ensures.steps.0)
