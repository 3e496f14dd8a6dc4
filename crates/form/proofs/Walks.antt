-- A turn of the walk over lines: what it still answers from here is what the whole answers.
use Rattle.std.proofs.Common.{Result, Ok, Err}
use mathlib.Core.Path.{◌≡◌, sym, ap, ◌∙◌}
use mathlib.Core.List.{List}
use Prim.Native.Nat.{ℕ, ◌+◌, ◌≤◌, ◌<◌}
use lib.ListN.{length, drop}
use Rattle.splits.specs.Splits.{other, past, part, lines}
use Rattle.splits.proofs.Laws.{no_lines, next_line}
use Rattle.items.specs.declared.Reason.{Reason}
use Rattle.score.specs.declared.music.Points.{Points}
use Rattle.form.specs.declared.draft.Draft.{Draft}
use Rattle.form.specs.Drafts.{empty}
use Rattle.form.specs.Forms.{Sofar, taken, done, wrong, onward, walk, start, outcome, front, read_step}

-- before the first line
pub begun : (text : List ℕ) (points : Points) (draft : Draft) → draft ≡ empty
    → walk (lines (drop 0 text)) 0 (front draft points) ≡ outcome text
unfolding outcome start front empty
begun text points draft e = rw e

module _ (text : List ℕ) (place behind : ℕ) (sofar : Sofar) (same : walk (lines (drop place text)) behind sofar ≡ outcome text) where
  pub turn_done : length text ≤ place → done behind sofar ≡ outcome text
  unfolding walk
  turn_done h = sym (ap (λ (l : List (List ℕ)). walk l behind sofar) (no_lines text place h)) ∙ same

  module _ (end : ℕ) (h : place < length text) (e : end ≡ past (other 10) text place) where
    one : onward (behind + 1) (walk (lines (drop (end + 1) text)) (behind + 1)) (taken sofar (part text place end)) ≡ outcome text
    unfolding walk
    one = sym (ap (λ (l : List (List ℕ)). walk l behind sofar) (next_line text place end h e)) ∙ same

    module _ {step : Result Draft Reason} (points : Points) (f : read_step step points ≡ taken sofar (part text place end)) where
      pub turn_next : {next : Draft} → step ≡ Ok next → walk (lines (drop (end + 1) text)) (behind + 1) (front next points) ≡ outcome text
      unfolding onward read_step front
      turn_next g = ap (onward (behind + 1) (walk (lines (drop (end + 1) text)) (behind + 1))) (sym (ap (λ (s : Result Draft Reason). read_step s points) g) ∙ f) ∙ one

      pub turn_wrong : {reason : Reason} → step ≡ Err reason → wrong (behind + 1) reason ≡ outcome text
      unfolding onward read_step
      turn_wrong g = ap (onward (behind + 1) (walk (lines (drop (end + 1) text)) (behind + 1))) (sym (ap (λ (s : Result Draft Reason). read_step s points) g) ∙ f) ∙ one
