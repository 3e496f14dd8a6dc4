-- The lines of the bars so far are put.
use Rattle.std.proofs.Common.{◌≤◌, ◌+◌, ◌*◌}
use Rattle.meter.specs.Meters.{points_of}
use Rattle.tempo.specs.Maps.{points}
use Rattle.text.specs.Pages.{Appends}
use Rattle.sheet_text.specs.Sheets.{lines_of}
use Rattle.sheet_text.proofs.lines.bar_lines.Given as goal

abbrev pub invariant-loop-bar : goal.invariant-loop-bar
invariant-loop-bar l = (l.page.place ≤ l.initial.page.place + 64 * l.bar) × Appends (lines_of l.t (points_of l.words) (points l.map) l.bar) l.initial.page l.page
