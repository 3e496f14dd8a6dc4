-- The loop keeps what the pass gives: over the points that are left it is what it is over the whole map.
use Rattle.std.proofs.Common.{◌≡◌, ℕ, true, ◌<◌, sym, ap, ◌∙◌}
use Rattle.meter.specs.declared.MeterPoint.{MeterPoint}
use Rattle.meter.specs.declared.bars.Opening.{Opening}
use Rattle.meter.specs.Meters.{points_of, fallback}
use Rattle.meter.specs.Starts.{start_of}
use Rattle.meter.proofs.Walking.{opening_one, opening_ascending}
use Rattle.meter.proofs.Passing.{pass, pass_start, pass_end, pass_stop, pass_again}
use Rattle.meter.proofs.bars.Opening.by_pass.Goals as goal

-- what the pass gives from the start on
from_start : (o : Opening) (bar : ℕ) (meter : MeterPoint) → meter ≡ fallback o.map.default → o.ascending ≡ true → 0 < bar
    → pass (points_of o.map.words.now) 1 bar meter o.one ≡ start_of (points_of o.map.words.now) o.map.default o.map.pickup bar
from_start o bar meter m a h =
    let map = points_of o.map.words.now in
    (λ t. pass map 1 bar (m t) ((sym (ap (λ x. x.1) o.opened) ∙ opening_one map o.map.default o.map.pickup) t))
    ∙ pass_start map o.map.default o.map.pickup bar (sym (opening_ascending map o.map.default o.map.pickup) ∙ ap (λ x. x.0) o.opened ∙ a) h

pub returns-then-point-bar : goal.returns-then-point-bar
returns-then-point-bar c =
    c.up_to.ensures
    ∙ sym (pass_stop _ c.loop-point.from c.args.bar c.loop-point.meter c.loop-point.at c.in-Some.point _ c.in-Some.ensures.steps c.if-point-bar.true)
    ∙ c.loop-point.invariant
    ∙ from_start c.args.self.now c.args.bar _ c.unlisted-meter.ensures c.requires.ascending c.requires.bar_nonzero

pub loop-point-preserved : goal.loop-point-preserved
loop-point-preserved c =
    pass_again _ c.loop-point.from c.args.bar c.loop-point.meter c.loop-point.at c.in-Some.point _ c.in-Some.ensures.steps _ _ _
    c.if-point-bar.false c.larger-from.ensures c.up_to-at.ensures c.loop-point.invariant

pub returns : goal.returns
returns c =
    c.up_to-2.ensures
    ∙ sym (pass_end _ c.loop-point.from c.args.bar c.loop-point.meter c.loop-point.at c.in-None.ensures.steps.0)
    ∙ c.loop-point.invariant
    ∙ from_start c.args.self.now c.args.bar _ c.unlisted-meter.ensures c.requires.ascending c.requires.bar_nonzero
