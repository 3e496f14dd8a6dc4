-- What is left to write is the row from note k on.
use Rattle.std.proofs.Common.{ℕ, ◌-◌, ◌*◌}
use Rattle.numbers.specs.Lists.{entries}
use Rattle.notes.specs.Notes.{words_of}
use Rattle.notes.proofs.Laws.{Writing}
use Rattle.rhythm.specs.Makes.{hit, Places}
use Rattle.rhythm.proofs.making.fill.Given as goal

abbrev pub invariant-loop-k : goal.invariant-loop-k
invariant-loop-k g l =
    (at : ℕ → ℕ) → Places l.count (λ k s. goal.F-post g l.place k s) at
    → Writing l.initial.out l.out (4 * l.k) (words_of (entries (λ k. hit l.len l.tag (at k)) l.k (l.count - l.k))) (words_of (entries (λ k. hit l.len l.tag (at k)) 0 l.count))
