-- Past the end the definition has 0 too.
use Rattle.std.proofs.Common.{sym}
use lib.ListN.{get_or-eq_default}
use Rattle.asking.proofs.fields.u32_at.Goals as goal

pub returns-else-i-q : goal.returns-else-i-q
returns-else-i-q c = sym (get_or-eq_default c.args.q.now 0 c.if-i-q.false)
