-- The point is the first one or a later one, by its index.
use Rattle.problems.specs.Passes.{listed_at}
use Rattle.problems.proofs.Points.{tempo_first_lem, tempo_later_lem}
use Rattle.problems.proofs.changes.point.Goals as goal

pub first-requires : goal.first-requires
first-requires c = rw (tempo_first_lem c.args.n c.args.index c.args.before (listed_at c.args.at c.args.bits) c.if-index-eq0.true) at c.requires

pub later-requires : goal.later-requires
later-requires c = rw (tempo_later_lem c.args.n c.args.index c.args.before (listed_at c.args.at c.args.bits) c.if-index-eq0.false) at c.requires

pub returns-then-index-eq0 : goal.returns-then-index-eq0
returns-then-index-eq0 c = rw (tempo_first_lem c.args.n c.args.index c.args.before (listed_at c.args.at c.args.bits) c.if-index-eq0.true) c.first.ensures

pub returns-else-index-eq0 : goal.returns-else-index-eq0
returns-else-index-eq0 c = rw (tempo_later_lem c.args.n c.args.index c.args.before (listed_at c.args.at c.args.bits) c.if-index-eq0.false) c.later.ensures
