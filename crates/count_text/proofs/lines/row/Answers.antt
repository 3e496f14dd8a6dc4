-- Brackets, and between them the two kinds of squares.
use Rattle.std.proofs.Common.{arith}
use Rattle.count_text.proofs.Parts.{row_put}
use Rattle.count_text.proofs.lines.row.Goals as goal

pub returns-clause-puts : goal.returns-clause-puts
returns-clause-puts c = row_put c.args.count (omega arith) c.min-full.ensures c.byte.ensures c.squares.ensures.puts c.squares-2.ensures.puts c.byte-2.ensures
