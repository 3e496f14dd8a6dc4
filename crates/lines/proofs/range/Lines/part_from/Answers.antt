-- The part between the two places.
use Rattle.std.proofs.Common.{sym, arith}
use Rattle.lines.proofs.Ranges.{part_is, none_between}
use Rattle.lines.proofs.range.Lines.part_from.Goals as goal

pub returns-then-start-end : goal.returns-then-start-end
returns-then-start-end c =
    sym (none_between c.args.start c.args.end c.if-start-end.true c.args.self.frames.now)

pub returns : goal.returns
returns c =
    sym (part_is c.args.start c.args.end (omega arith) c.args.self.frames.now _ _ c.requires c.place_from-upto.ensures)
