-- After k turns k squares are put.
use Rattle.std.proofs.Common.{◌≡◌, ap, arith}
use Rattle.text.proofs.Laws.{append_as}
use Rattle.count_text.specs.Answers.{repeated}
use Rattle.count_text.proofs.Parts.{no_squares, one_square}
use Rattle.count_text.proofs.lines.squares.Goals as goal

pub loop-init : goal.loop-init
loop-init c = (omega arith, no_squares _ _)

pub loop-preserved : goal.loop-preserved
loop-preserved c = (omega arith, one_square c.args.square c.loop.counter (omega arith) c.loop.invariant.1 c.byte.ensures)

pub returns : goal.returns
returns c =
    let e : c.loop.counter ≡ c.args.count = omega arith in
    record { puts = append_as (ap (repeated c.args.square) e) c.loop.invariant.1; place = omega arith }
