-- The loop keeps what halving gives between lo and hi.
use mathlib.Core.Path.{refl, sym, ◌∙◌}
use native.Mathlib.Omega.{arith}
use borrow.Author.Rules.{rules}
use Rattle.meter.specs.Meters.{points_of}
use Rattle.meter.specs.Counts.{reaches}
use Rattle.meter.proofs.Searching.{halving_over, halving_first, halving_second}
use Rattle.meter.proofs.bars.Opening.first_bar.Goals as goal

pub loop-lo-init : goal.loop-lo-init
loop-lo-init c = (omega arith, (omega arith, refl))

pub loop-lo-preserved-then-reaches : goal.loop-lo-preserved-then-reaches
loop-lo-preserved-then-reaches c = (
  search rules,
  (
    search rules,
    halving_first (reaches (points_of c.args.self.now.map.words.now) c.args.self.now.map.default c.args.self.now.map.pickup c.args.beat) c.loop-lo.lo c.loop-lo.hi c.loop-lo-test.true (omega arith) (sym c.reaches.ensures ∙ c.if-reaches.true)
        ∙ c.loop-lo.invariant.1.1,
  ),
)

pub loop-lo-preserved : goal.loop-lo-preserved
loop-lo-preserved c = (
  search rules,
  (
    search rules,
    halving_second (reaches (points_of c.args.self.now.map.words.now) c.args.self.now.map.default c.args.self.now.map.pickup c.args.beat) c.loop-lo.lo c.loop-lo.hi c.loop-lo-test.true (omega arith) (sym c.reaches.ensures ∙ c.if-reaches.false)
        ∙ c.loop-lo.invariant.1.1,
  ),
)

pub returns : goal.returns
returns c =
    sym (halving_over (reaches (points_of c.args.self.now.map.words.now) c.args.self.now.map.default c.args.self.now.map.pickup c.args.beat) 32 c.loop-lo.lo c.loop-lo.hi c.loop-lo-test.false) ∙ c.loop-lo.invariant.1.1
