-- The choice is that of the definition.
use Rattle.std.proofs.Common.{◌∙◌}
use Rattle.filler.proofs.Standing.{start_own, start_later}
use Rattle.filler.proofs.segments.Segment.start_of.Goals as goal

pub returns-then-bar-self : goal.returns-then-bar-self
returns-then-bar-self c = start_own c.args.self c.args.bar c.if-bar-self.true

pub returns-else-bar-self : goal.returns-else-bar-self
returns-else-bar-self c =
    c.after_bars.ensures ∙ start_later c.args.self c.args.bar c.if-bar-self.false
