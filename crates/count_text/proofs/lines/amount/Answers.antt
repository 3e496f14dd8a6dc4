-- The count that was not searched, or the number itself.
use Rattle.std.proofs.Common.{arith, ◌-◌}
use Rattle.text.proofs.Laws.{append_as, append_behind, digits32}
use Rattle.count_text.proofs.Parts.{unsearched, searched}
use Rattle.count_text.proofs.lines.amount.Goals as goal

pub decimal-requires : goal.decimal-requires
decimal-requires c = omega (arith, digits32 (2147483648 - c.args.less) (omega arith))

pub decimal-requires-else-count-eq4294967295 : goal.decimal-requires-else-count-eq4294967295
decimal-requires-else-count-eq4294967295 c = omega (arith, digits32 (c.args.count - c.args.less) (omega arith))

pub returns-then-count-eq4294967295 : goal.returns-then-count-eq4294967295
returns-then-count-eq4294967295 c =
    record {
      puts = append_as (unsearched c.args.count c.args.less c.if-count-eq4294967295.true) (append_behind c.bytes.ensures c.decimal.ensures (omega arith));
      upper_bound = omega (arith, digits32 (2147483648 - c.args.less) (omega arith));
    }

pub returns-else-count-eq4294967295 : goal.returns-else-count-eq4294967295
returns-else-count-eq4294967295 c =
    record {
      puts = append_as (searched c.args.count c.args.less c.if-count-eq4294967295.false) c.decimal-else-count-eq4294967295.ensures;
      upper_bound = omega (arith, digits32 (c.args.count - c.args.less) (omega arith));
    }
