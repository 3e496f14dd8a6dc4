-- Seven texts one behind another.
use Rattle.std.proofs.Common.{arith}
use Rattle.text.proofs.Laws.{digits32}
use Rattle.form_text.proofs.Rows.{meter_put}
use Rattle.form_text.proofs.lines.meter_line.Goals as goal

pub decimal-requires : goal.decimal-requires
decimal-requires c = omega (arith, digits32 c.args.bar (omega arith))

pub byte-requires : goal.byte-requires
byte-requires c = omega (arith, digits32 c.args.bar (omega arith))

pub decimal-requires-2 : goal.decimal-requires-2
decimal-requires-2 c = omega (arith, digits32 c.args.bar (omega arith), digits32 c.args.num (omega arith))

pub byte-requires-2 : goal.byte-requires-2
byte-requires-2 c = omega (arith, digits32 c.args.bar (omega arith), digits32 c.args.num (omega arith))

pub decimal-requires-3 : goal.decimal-requires-3
decimal-requires-3 c = omega (arith, digits32 c.args.bar (omega arith), digits32 c.args.num (omega arith), digits32 c.args.den (omega arith))

pub byte-requires-3 : goal.byte-requires-3
byte-requires-3 c = omega (arith, digits32 c.args.bar (omega arith), digits32 c.args.num (omega arith), digits32 c.args.den (omega arith))

pub returns : goal.returns
returns c =
    record {
      puts = meter_put (omega arith) c.args.bar c.args.num c.args.den c.bytes.ensures c.decimal.ensures c.byte.ensures c.decimal-2.ensures c.byte-2.ensures c.decimal-3.ensures c.byte-3.ensures;
      upper_bound = omega (arith, digits32 c.args.bar (omega arith), digits32 c.args.num (omega arith), digits32 c.args.den (omega arith));
    }
