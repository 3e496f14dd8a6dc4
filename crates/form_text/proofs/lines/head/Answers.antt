-- Six texts one behind another.
use Rattle.std.proofs.Common.{arith}
use Rattle.form_text.proofs.Rows.{head_put}
use Rattle.form_text.proofs.lines.head.Goals as goal

pub returns-clause-puts : goal.returns-clause-puts
returns-clause-puts c =
    head_put (omega arith) c.args.score c.number_line.ensures.puts c.number_line-2.ensures.puts c.bytes.ensures c.tempo.ensures.puts c.byte.ensures c.pickup_line.ensures.puts
