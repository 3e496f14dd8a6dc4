-- The squares so far are put.
use Rattle.std.proofs.Common.{◌≡◌, ◌+◌}
use Rattle.text.specs.Pages.{Appends}
use Rattle.count_text.specs.Answers.{repeated}
use Rattle.count_text.proofs.lines.squares.Given as goal

abbrev pub invariant-loop : goal.invariant-loop
invariant-loop l =
    (l.page.place ≡ l.initial.page.place + l.counter) × Appends (repeated l.square l.counter) l.initial.page l.page
