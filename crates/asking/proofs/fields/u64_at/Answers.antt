-- Past the end both words are 0.
use Rattle.std.proofs.Common.{◌+◌, arith}
use lib.ListN.{get_or-eq_default}
use Rattle.asking.proofs.fields.u64_at.Goals as goal

pub returns-else-i-q : goal.returns-else-i-q
returns-else-i-q c =
    omega (arith, get_or-eq_default c.args.q.now 0 {n = c.args.i} c.if-i-q.false, get_or-eq_default c.args.q.now 0 {n = c.args.i + 1} (omega arith))
