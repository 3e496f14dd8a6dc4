-- The first three words are the first point, and the points of the others are left.
use Rattle.std.proofs.Common.{ap, arith, length}
use Rattle.meter.proofs.Scanning.{points_end, points_first}
use Rattle.meter.proofs.bars.PointsIterator.next.Goals as goal

pub returns-in_default-clause-steps : goal.returns-in_default-clause-steps
returns-in_default-clause-steps c =
    let none = points_end c.args.self.now.words.now 0 (omega arith) in
    (none, none)

pub returns-clause-steps : goal.returns-clause-steps
returns-clause-steps c = points_first c.args.self.now.words.now c.in-len3-up.len_at_least

pub returns-clause-goes : goal.returns-clause-goes
returns-clause-goes c =
    let less = ap length (points_first c.args.self.now.words.now c.in-len3-up.len_at_least) in
    record { on = λ _. (tt, tt, omega arith); keeps = tt; rests = λ _. tt }
