-- The walk keeps that all lines ascend just when no fall is counted so far and what is left, behind the line before, ascends.
use Rattle.std.proofs.Common.{◌≡◌, ◌≤◌, ◌&&◌, eqb, drop}
use Rattle.lines.specs.Lines.{ascends_from, ascends}
use Rattle.lines.proofs.range.ascending.Given as goal

abbrev pub invariant-loop-line : goal.invariant-loop-line
invariant-loop-line l =
    (l.falls ≤ l.line-index) × (eqb l.falls 0 && ascends_from l.low (drop l.line-index l.lines) ≡ ascends l.lines)
