-- The loop keeps the start: the segments that are left, from where the next one starts, lead to it.
use mathlib.Core.Path.{ap, sym, ◌∙◌}
use Prim.Native.Nat.{◌-◌}
use native.Mathlib.Omega.{arith}
use Rattle.meter.specs.Meters.{points_of}
use Rattle.meter.specs.Starts.{segments}
use Rattle.meter.proofs.Walking.{next_gt, opening_one, start_segments, segments_over, segments_again}
use Rattle.meter.proofs.bars.Opening.by_segments.Goals as goal

pub loop-from-init : goal.loop-from-init
loop-from-init c =
    let map = points_of c.args.self.now.map.words.now in (
      omega arith,
      (
        omega arith,
        ap (segments map c.args.self.now.map.default c.args.self.now.map.pickup (c.args.bar - 1) 1 c.args.bar) (sym (ap (λ x. x.1) c.args.self.now.opened) ∙ opening_one map c.args.self.now.map.default c.args.self.now.map.pickup)
            ∙ start_segments map c.args.self.now.map.default c.args.self.now.map.pickup c.args.bar c.requires,
      ),
    )

pub overflow_sub-end : goal.overflow_sub-end
overflow_sub-end c =
    omega (arith, c.next_change-end.ensures, next_gt (points_of c.args.self.now.map.words.now) c.loop-from.from c.args.bar c.loop-from-test.true)

pub loop-from-smaller : goal.loop-from-smaller
loop-from-smaller c =
    omega (arith, c.next_change-end.ensures, next_gt (points_of c.args.self.now.map.words.now) c.loop-from.from c.args.bar c.loop-from-test.true)

pub loop-from-preserved : goal.loop-from-preserved
loop-from-preserved c =
    segments_again (points_of c.args.self.now.map.words.now) c.args.self.now.map.default c.args.self.now.map.pickup c.loop-from.from c.args.bar _ c.loop-from.at _ _ _
    c.loop-from-test.true c.next_change-end.ensures c.length.ensures c.after_bars-at.ensures c.loop-from.invariant.1.1

pub returns : goal.returns
returns c =
    sym (segments_over (points_of c.args.self.now.map.words.now) c.args.self.now.map.default c.args.self.now.map.pickup (c.args.bar - c.loop-from.from) c.loop-from.from c.args.bar c.loop-from.at c.loop-from-test.false)
    ∙ c.loop-from.invariant.1.1
