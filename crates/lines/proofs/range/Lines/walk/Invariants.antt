-- The walk keeps that the place is among the lines that are left.
use Rattle.std.proofs.Common.{◌+◌, ◌-◌}
use Rattle.lines.specs.Places.{Bracket}
use Rattle.lines.proofs.range.Lines.walk.Given as goal

abbrev pub invariant-loop-look : goal.invariant-loop-look
invariant-loop-look l = Bracket l.frame l.self.frames.now l.place (l.place + (l.size - l._look))
