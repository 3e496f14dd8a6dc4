-- The choice is that of the definition.
use Rattle.std.proofs.Common.{ap, ◌∙◌}
use Rattle.beats.specs.Sums.{or_most}
use Rattle.filler.proofs.Standing.{end_first, end_later}
use Rattle.filler.proofs.segments.Segment.end_before.Goals as goal

pub returns-then-self-eq0 : goal.returns-then-self-eq0
returns-then-self-eq0 c =
    c.or_most.ensures ∙ ap or_most c.add.ensures ∙ end_first c.args.self c.args.bar c.if-self-eq0.true

pub returns-else-self-eq0 : goal.returns-else-self-eq0
returns-else-self-eq0 c =
    c.after_bars.ensures ∙ end_later c.args.self c.args.bar c.if-self-eq0.false
