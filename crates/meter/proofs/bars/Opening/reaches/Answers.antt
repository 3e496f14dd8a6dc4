-- The parts' contracts, one inside the other.
use mathlib.Core.Path.{ap, ◌∙◌}
use mathlib.Core.Bool.{not}
use Rattle.beats.specs.declared.Beat.{Beat}
use Rattle.beats.specs.Sums.{below_beat}
use Rattle.meter.specs.Counts.{reaches}
use Rattle.meter.proofs.bars.Opening.reaches.Goals as goal

pub returns : goal.returns
unfolding reaches
returns c =
    ap not (c.below.ensures ∙ ap (λ (start : Beat). below_beat start c.args.beat) c.start.ensures)
