-- Three texts one behind another.
use Rattle.std.proofs.Common.{arith}
use Rattle.text.proofs.Laws.{digits32}
use Rattle.form_text.proofs.Rows.{number_put}
use Rattle.form_text.proofs.lines.number_line.Goals as goal

pub decimal-requires : goal.decimal-requires
decimal-requires c = omega (arith, digits32 c.args.number (omega arith))

pub byte-requires : goal.byte-requires
byte-requires c = omega (arith, digits32 c.args.number (omega arith))

pub returns : goal.returns
returns c =
    record {
      puts = number_put (omega arith) c.args.word.now c.args.number c.bytes.ensures c.decimal.ensures c.byte.ensures;
      upper_bound = omega (arith, digits32 c.args.number (omega arith));
    }
