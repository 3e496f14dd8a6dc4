-- Three lines one behind another.
use Rattle.std.proofs.Common.{arith}
use Rattle.count_text.proofs.Parts.{lines_put}
use Rattle.count_text.proofs.lines.lines.Goals as goal

pub returns-clause-puts : goal.returns-clause-puts
returns-clause-puts c = lines_put c.args.count (omega arith) c.args.fits c.args.beat c.count_line.ensures.puts c.fits_line.ensures.puts c.row_line.ensures.puts
