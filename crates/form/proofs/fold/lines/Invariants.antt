-- What the walk still answers from here is what the whole answers; each line takes at least its end's byte, so there are no more lines behind than bytes.
use mathlib.Core.Path.{◌≡◌}
use Prim.Native.Nat.{◌-◌, ◌≤◌}
use lib.ListN.{length, drop}
use Rattle.splits.specs.Splits.{lines}
use Rattle.form.specs.Forms.{walk, outcome, front}
use Rattle.form.proofs.fold.lines.Given as goal

abbrev pub invariant-loop-place : goal.invariant-loop-place
invariant-loop-place l =
    (l.line ≤ l.place) × (walk (lines (drop l.place l.text)) l.line (front l.draft l.points) ≡ outcome l.text)

abbrev pub decreases-loop-place : goal.decreases-loop-place
decreases-loop-place l = length l.text - l.place
