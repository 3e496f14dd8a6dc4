-- The steps keep that the place is not before `low`; one that would go past it closes the bracket, and the search goes on inside.
use Rattle.std.proofs.Common.{arith}
use Rattle.lines.proofs.Searching.{behind, up_to}
use Rattle.lines.proofs.range.Lines.place_from.Goals as goal

pub search-requires : goal.search-requires
search-requires c =
    up_to c.args.frame c.args.self.frames.now _ _ c.loop-step.invariant.1 c.args.self.in_order _ (omega arith) (omega arith) c.if-frame-lines.true

pub loop-step-preserved : goal.loop-step-preserved
loop-step-preserved c =
    (omega arith, behind c.args.frame c.args.self.frames.now _ _ c.loop-step.invariant.1 c.args.self.in_order _ (omega arith) c.if-frame-lines.false)
