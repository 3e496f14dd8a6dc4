-- The walk keeps that all lines ascend just when no fall is counted so far and what is left, behind the line before, ascends.
use Rattle.std.proofs.Common.{sym, ◌∙◌, rules, arith}
use Rattle.lines.proofs.Order.{one_more, ended}
use Rattle.lines.proofs.range.ascending.Goals as goal

pub loop-line-preserved : goal.loop-line-preserved
loop-line-preserved c =
    (omega arith, one_more c.args.lines.now c.loop-line.low c.loop-line.line-index c.loop-line.falls c.less-falls.result (search rules) c.less-falls.ensures.0 ∙ c.loop-line.invariant.1)

pub returns : goal.returns
returns c =
    sym (ended c.args.lines.now c.loop-line.low c.loop-line.line-index c.loop-line.falls (omega arith)) ∙ c.loop-line.invariant.1
