-- The lines of the points so far are put, and the words behind them are left.
use Rattle.std.proofs.Common.{◌≡◌, ◌≤◌, ◌+◌, ◌*◌, length, drop}
use Rattle.text.specs.Pages.{Appends}
use Rattle.form_text.specs.Forms.{meter_lines}
use Rattle.form_text.proofs.lines.meter_lines.Given as goal

abbrev pub invariant-loop-point : goal.invariant-loop-point
invariant-loop-point l =
    (l.point-iterator.size ≡ 3) × (l.point-iterator.rest.now ≡ drop (3 * length l.yielded) l.words) × (3 * length l.yielded ≤ length l.words)
    × (l.page.place ≤ l.initial.page.place + 39 * length l.yielded) × Appends (meter_lines l.words (length l.yielded)) l.initial.page l.page
