-- The lines of the points so far are put.
use Rattle.std.proofs.Common.{◌≤◌, ◌+◌, ◌*◌}
use Rattle.text.specs.Pages.{Appends}
use Rattle.form_text.specs.Forms.{tempo_lines}
use Rattle.form_text.proofs.lines.tempo_lines.Given as goal

abbrev pub invariant-loop-k : goal.invariant-loop-k
invariant-loop-k l = (l.page.place ≤ l.initial.page.place + 54 * l.k) × Appends (tempo_lines l.map.nums.now l.map.dens.now l.map.tempos.now l.k) l.initial.page l.page
