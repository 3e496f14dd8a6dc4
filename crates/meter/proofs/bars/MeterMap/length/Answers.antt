-- Bar 0 by the pickup, every other by its meter.
use Rattle.std.proofs.Common.{ap, ◌∙◌}
use Rattle.meter.specs.Meters.{len_of, pickup_or}
use Rattle.meter.proofs.Walking.{len_first, len_rest}
use Rattle.meter.proofs.bars.MeterMap.length.Goals as goal

pub returns : goal.returns
returns c =
    c.pickup_or.ensures
    ∙ ap (pickup_or c.args.self.now.pickup) (c.len-usual.ensures ∙ ap len_of c.meter.ensures)
    ∙ len_first _ c.args.self.now.default c.args.self.now.pickup c.args.bar c.if-bar-ne0.false

pub returns-then-bar-ne0 : goal.returns-then-bar-ne0
returns-then-bar-ne0 c =
    c.len-usual.ensures
    ∙ ap len_of c.meter.ensures
    ∙ len_rest _ c.args.self.now.default c.args.self.now.pickup c.args.bar c.if-bar-ne0.true
