-- The loop keeps the start of bar 2^31: the points that are left lead to it.
use Rattle.std.proofs.Common.{sym, ap, ◌∙◌}
use Rattle.std.proofs.lemmas.Result.{err_from_is_err_and}
use Rattle.numbers.specs.Answers.{accepted}
use Rattle.meter.specs.declared.MeterPoint.{MeterPoint}
use Rattle.meter.specs.Meters.{points_of}
use Rattle.fits.specs.Decision.{walked}
use Rattle.fits.proofs.Walking.{walked_end, walked_again, walked_stops}
use Rattle.fits.proofs.walk.last_start.Goals as goal

pub returns-in_err-at : goal.returns-in_err-at
returns-in_err-at c =
    let p = err_from_is_err_and c.from_residual.result c.from_residual.ensures.1 in
    rw (p.1, p.2) (
    walked_stops _ c.loop-point.bar c.loop-point.meter (accepted c.loop-point.at) c.in-Some.point _ c.in-Some.ensures.steps _ _ _ _
    c.limited-end.ensures c.in_err-at.ensures c.loop-point.invariant
    ∙ ap (λ (meter : MeterPoint). walked (points_of c.args.map.now.words.now) 1 meter (accepted c.args.one)) c.unlisted-meter.ensures)

pub loop-point-preserved : goal.loop-point-preserved
loop-point-preserved c =
    walked_again _ c.loop-point.bar c.loop-point.meter (accepted c.loop-point.at) c.in-Some.point _ c.in-Some.ensures.steps _ _ _ _
    c.limited-end.ensures c.in_ok-at.ensures c.larger-bar.ensures c.loop-point.invariant

pub returns : goal.returns
returns c =
    c.up_to-2.ensures
    ∙ sym (walked_end _ c.loop-point.bar c.loop-point.meter (accepted c.loop-point.at) c.in-None.ensures.steps.0)
    ∙ c.loop-point.invariant
    ∙ ap (λ (meter : MeterPoint). walked (points_of c.args.map.now.words.now) 1 meter (accepted c.args.one)) c.unlisted-meter.ensures
