-- The test is that of the definition.
use mathlib.Core.Path.{sym, ap, ◌∙◌}
use Prim.Native.Nat.{◌-◌}
use Rattle.beats.specs.declared.Beat.{Beat}
use Rattle.meter.specs.Starts.{after_bars}
use Rattle.meter.proofs.Walking.{ending_bars, ending_none}
use Rattle.meter.proofs.bars.up_to.Goals as goal

pub returns-then-bar-end : goal.returns-then-bar-end
returns-then-bar-end c =
    c.after_bars.ensures
    ∙ ap (λ (l : Beat). after_bars c.args.at l (c.args.end - c.args.bar)) c.len.ensures
    ∙ sym (ending_bars c.args.bar c.args.end c.args.meter c.args.at c.if-bar-end.true)

pub returns-else-bar-end : goal.returns-else-bar-end
returns-else-bar-end c =
    sym (ending_none c.args.bar c.args.end c.args.meter c.args.at c.if-bar-end.false)
