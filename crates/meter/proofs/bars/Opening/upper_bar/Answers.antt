-- The loop keeps that hi is a power of two up to 2^31, and what doubling makes of it.
use mathlib.Core.Path.{sym, ◌∙◌}
use native.Mathlib.Omega.{arith}
use Rattle.meter.specs.Meters.{points_of}
use Rattle.meter.specs.Counts.{reaches}
use Rattle.meter.proofs.Searching.{doubled_first, doubled_pos, doubled_ends, doubled_none, doubled_more}
use Rattle.meter.proofs.bars.Opening.upper_bar.Goals as goal

pub loop-beat-init : goal.loop-beat-init
loop-beat-init c = doubled_first (reaches (points_of c.args.self.now.map.words.now) c.args.self.now.map.default c.args.self.now.map.pickup c.args.beat)

pub loop-beat-smaller : goal.loop-beat-smaller
loop-beat-smaller c =
    omega (arith, doubled_pos (reaches (points_of c.args.self.now.map.words.now) c.args.self.now.map.default c.args.self.now.map.pickup c.args.beat) _ c.loop-beat.hi c.loop-beat.invariant)

pub loop-beat-preserved : goal.loop-beat-preserved
loop-beat-preserved c =
    doubled_more (reaches (points_of c.args.self.now.map.words.now) c.args.self.now.map.default c.args.self.now.map.pickup c.args.beat) _ c.loop-beat.hi c.loop-beat.invariant c.if-hi-ge2147483648.false (sym c.reaches.ensures ∙ c.if-reaches.false)

pub returns-then-reaches : goal.returns-then-reaches
returns-then-reaches c =
    doubled_ends (reaches (points_of c.args.self.now.map.words.now) c.args.self.now.map.default c.args.self.now.map.pickup c.args.beat) _ c.loop-beat.hi c.loop-beat.invariant (sym c.reaches.ensures ∙ c.if-reaches.true)

pub returns-then-hi-ge2147483648 : goal.returns-then-hi-ge2147483648
returns-then-hi-ge2147483648 c =
    doubled_none (reaches (points_of c.args.self.now.map.words.now) c.args.self.now.map.default c.args.self.now.map.pickup c.args.beat) _ c.loop-beat.hi c.loop-beat.invariant c.if-hi-ge2147483648.true (sym c.reaches.ensures ∙ c.if-reaches.false)

pub overflow_mul-hi : goal.overflow_mul-hi
overflow_mul-hi c = omega arith
