-- What the three looks find says which of the four parts has the place.
use Rattle.std.proofs.Common.{arith, ◌+◌, ◌/◌}
use Rattle.lines.proofs.Searching.{three_looks}
use Rattle.lines.proofs.range.Lines.cut.Goals as goal

pub returns : goal.returns
returns c =
    three_looks c.args.frame c.args.self.frames.now c.args.self.in_order c.args.place c.args.size c.requires.1 ((c.args.size + 1) / 4) (omega arith) (omega arith) (omega arith)
    _ _ _ (omega arith) (omega arith) (omega arith) _ _ _ c.less-first.ensures.0 c.less-second.ensures.0 c.less-third.ensures.0
