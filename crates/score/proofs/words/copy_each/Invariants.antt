-- What is still to be copied is what is read at the places that are left.
use Rattle.std.proofs.Common.{ℕ, ◌+◌, ◌-◌, ◌*◌}
use Rattle.numbers.proofs.Laws.{Writing}
use Rattle.score.specs.Bytes.{each, Reads}
use Rattle.score.proofs.words.copy_each.Given as goal

abbrev pub invariant-loop-k : goal.invariant-loop-k
invariant-loop-k g l =
    (at : ℕ → g.row.T.Denot) → Reads l.count l.place l.step (λ p x. goal.F-post g l.read p x) at
    → Writing l.initial.out l.out l.k (each at (l.place + l.step * l.k) l.step (l.count - l.k)) (each at l.place l.step l.count)
