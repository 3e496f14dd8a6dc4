-- Each cut keeps that the place is among the lines in question, and leaves fewer of them.
use Rattle.std.proofs.Common.{◌+◌}
use Rattle.lines.specs.Places.{Bracket}
use Rattle.lines.proofs.range.Lines.search.Given as goal

abbrev pub invariant-loop-size : goal.invariant-loop-size
invariant-loop-size l = Bracket l.frame l.self.frames.now l.place (l.place + l.size)

abbrev pub decreases-loop-size : goal.decreases-loop-size
decreases-loop-size l = l.size
