-- The steps keep that the place is not before `low`; one that would go past it closes the bracket, and the search goes on inside.
use Rattle.std.proofs.Common.{◌-◌, ◌≤◌, length}
use Rattle.lines.specs.Places.{Bracket}
use Rattle.lines.proofs.range.Lines.place_from.Given as goal

abbrev pub invariant-loop-step : goal.invariant-loop-step
invariant-loop-step l = (1 ≤ l.step) × Bracket l.frame l.self.frames.now l.low (length l.self.frames.now)

abbrev pub decreases-loop-step : goal.decreases-loop-step
decreases-loop-step l = length l.self.frames.now - l.low
