-- Bar 0 starts at 0.
use Rattle.std.proofs.Common.{◌∙◌}
use Rattle.meter.specs.Meters.{points_of}
use Rattle.meter.proofs.Walking.{start_zero}
use Rattle.meter.proofs.bars.Opening.start.Goals as goal

pub returns-then-bar-eq0 : goal.returns-then-bar-eq0
returns-then-bar-eq0 c =
    c.zero.ensures ∙ start_zero (points_of c.args.self.now.map.words.now) c.args.self.now.map.default c.args.self.now.map.pickup c.args.bar c.if-bar-eq0.true
