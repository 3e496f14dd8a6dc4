-- Six texts one behind another; the room of each is what the line's length leaves.
use Rattle.std.proofs.Common.{arith}
use Rattle.sheet_text.proofs.Rows.{line_put, line_length}
use Rattle.sheet_text.proofs.lines.line.Goals as goal

pub decimal-requires : goal.decimal-requires
decimal-requires c = omega (arith, line_length c.args.label c.args.start c.args.frame)

pub byte-requires : goal.byte-requires
byte-requires c = omega (arith, line_length c.args.label c.args.start c.args.frame)

pub beat-requires : goal.beat-requires
beat-requires c = omega (arith, line_length c.args.label c.args.start c.args.frame)

pub byte-requires-2 : goal.byte-requires-2
byte-requires-2 c = omega (arith, line_length c.args.label c.args.start c.args.frame)

pub decimal-requires-2 : goal.decimal-requires-2
decimal-requires-2 c = omega (arith, line_length c.args.label c.args.start c.args.frame)

pub byte-requires-3 : goal.byte-requires-3
byte-requires-3 c = omega (arith, line_length c.args.label c.args.start c.args.frame)

pub returns : goal.returns
returns c = line_put c.args.label c.args.start c.args.frame (omega arith) c.decimal.ensures c.byte.ensures c.beat.ensures c.byte-2.ensures c.decimal-2.ensures c.byte-3.ensures
