-- The row, what is over, and the line end.
use Rattle.std.proofs.Common.{arith}
use Rattle.count_text.proofs.Parts.{row_line_put}
use Rattle.count_text.proofs.lines.row_line.Goals as goal

pub returns-clause-puts : goal.returns-clause-puts
returns-clause-puts c = row_line_put c.args.count (omega arith) c.row.ensures.puts c.over.ensures.puts c.byte.ensures
