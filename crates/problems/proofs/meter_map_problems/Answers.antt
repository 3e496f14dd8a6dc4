-- The first pass tells the count, and the second leaves the words.
use Rattle.std.proofs.Common.{false, arith}
use Rattle.numbers.proofs.Laws.{never}
use Rattle.problems.specs.Problems.{meter_problems}
use Rattle.problems.proofs.Calls.{ready, none_fit, none_written, all_written, meter_too_long, meter_told}
use Rattle.problems.proofs.Wholes.{meter_few}
use Rattle.problems.proofs.meter_map_problems.Goals as goal

pub pass-count-requires-clause-ready : goal.pass-count-requires-clause-ready
pass-count-requires-clause-ready c =
    ready false c.args.out.now (meter_problems c.args.points.now) (omega (arith, meter_few c.args.points.now)) never

pub returns-then-points-gt-MOST_POINTS : goal.returns-then-points-gt-MOST_POINTS
returns-then-points-gt-MOST_POINTS c =
    let told = meter_too_long c.args.points.now c.args.out.now c.if-points-gt-MOST_POINTS.true in
    record { answer = told.0; words = told.1 }

pub returns-then-count-out : goal.returns-then-count-out
returns-then-count-out c =
    let told = meter_told c.args.points.now c.args.out.now c.if-points-gt-MOST_POINTS.false (none_fit c.pass-count.ensures c.if-count-out.true) in
    record { answer = told.0; words = told.1 }

pub returns-then-count-eq0 : goal.returns-then-count-eq0
returns-then-count-eq0 c =
    let told = meter_told c.args.points.now c.args.out.now c.if-points-gt-MOST_POINTS.false (none_written c.pass-count.ensures c.if-count-eq0.true) in
    record { answer = told.0; words = told.1 }

pub returns : goal.returns
returns c =
    let told = meter_told c.args.points.now c.args.out.now c.if-points-gt-MOST_POINTS.false (all_written c.pass-count.ensures c.if-count-out.false c.pass.ensures) in
    record { answer = told.0; words = told.1 }
