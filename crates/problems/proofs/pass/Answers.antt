-- Each turn notes the records of one point, and leaves those of the later ones.
use Rattle.std.proofs.Common.{rules, refl, arith, length}
use Rattle.problems.proofs.Wholes.{meter_whole}
use Rattle.problems.proofs.Adding.{under_way, next_ready, next_on, all_passed}
use Rattle.problems.proofs.Metering.{meter_next, meter_end}
use Rattle.problems.proofs.pass.Goals as goal

pub loop-index-init : goal.loop-index-init
loop-index-init c = under_way _ refl (meter_whole c.args.points.now)

pub records_at-requires : goal.records_at-requires
records_at-requires c =
    next_ready _ _ (meter_next c.args.points.now (length c.args.points.now) c.loop-index.index c.loop-index.low (omega arith)) c.loop-index.invariant c.requires.ready

pub loop-index-preserved : goal.loop-index-preserved
loop-index-preserved c =
    next_on _ _ (meter_next c.args.points.now (length c.args.points.now) c.loop-index.index c.loop-index.low (omega arith)) c.loop-index.invariant c.records_at.ensures

pub returns : goal.returns
returns c =
    let done = all_passed (meter_end c.args.points.now (length c.args.points.now) c.loop-index.index c.loop-index.low (omega arith)) c.loop-index.invariant in
    let same = c.loop-index.invariant.same.lent in
    search rules
