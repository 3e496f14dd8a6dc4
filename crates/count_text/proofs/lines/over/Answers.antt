-- Nothing up to twenty, and else the bars past twenty.
use Rattle.std.proofs.Common.{arith}
use Rattle.count_text.proofs.Parts.{none_over, some_over}
use Rattle.count_text.proofs.lines.over.Goals as goal

pub returns-then-count-gt20-clause-puts : goal.returns-then-count-gt20-clause-puts
returns-then-count-gt20-clause-puts c = some_over c.args.count (omega arith) c.if-count-gt20.true c.byte.ensures c.amount.ensures.puts c.bytes.ensures

pub returns-else-count-gt20-clause-puts : goal.returns-else-count-gt20-clause-puts
returns-else-count-gt20-clause-puts c = none_over c.args.count _ c.if-count-gt20.false
