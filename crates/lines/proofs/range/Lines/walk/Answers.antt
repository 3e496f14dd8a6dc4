-- The walk keeps that the place is among the lines that are left.
use Rattle.std.proofs.Common.{arith}
use Rattle.lines.proofs.Searching.{one_look, wider}
use Rattle.lines.proofs.range.Lines.walk.Goals as goal

pub loop-look-preserved : goal.loop-look-preserved
loop-look-preserved c =
    let near = one_look c.args.frame c.args.self.frames.now c.args.self.in_order c.loop-look.place _ c.loop-look.invariant (omega arith) _ c.less-place.ensures.0 in
    wider _ _ _ _ near _ _ (omega arith) (omega arith) (omega (arith, near.within))
