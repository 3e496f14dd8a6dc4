-- The records of the map are noted, and then those of the point.
use Rattle.problems.specs.Problems.{meter_point}
use Rattle.problems.specs.Passes.{point_of, meter_head, records_at}
use Rattle.problems.proofs.Passing.{ready_first}
use Rattle.problems.proofs.Adding.{ready_more, adds_more}
use Rattle.problems.proofs.walk.records_at.Goals as goal

pub head-requires : goal.head-requires
unfolding records_at
head-requires c = ready_first (meter_head c.args.n c.args.index c.args.bar) (meter_point c.args.index c.args.low (point_of c.args.bar c.args.numerator c.args.denominator)) c.requires

pub own-requires : goal.own-requires
unfolding records_at
own-requires c = ready_more (meter_head c.args.n c.args.index c.args.bar) (meter_point c.args.index c.args.low (point_of c.args.bar c.args.numerator c.args.denominator)) c.requires c.head.ensures

pub returns : goal.returns
unfolding records_at
returns c = adds_more (meter_head c.args.n c.args.index c.args.bar) (meter_point c.args.index c.args.low (point_of c.args.bar c.args.numerator c.args.denominator)) c.head.ensures c.own.ensures
