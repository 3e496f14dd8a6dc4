-- The count so far and that of the notes that are left make the whole count.
use Rattle.std.proofs.Common.{length, ap, ◌∙◌, arith}
use Rattle.notes.proofs.Laws.{next_note, no_note}
use Rattle.rhythm.specs.Cuts.{window}
use Rattle.rhythm.proofs.Windows.{inside, behind, before, win_none}
use Rattle.rhythm.proofs.cutting.count_window.Goals as goal
use Rattle.rhythm.proofs.cutting.count_window.Goals.{then-start-n+then-n-start, then-start-n+else-n-start, else-start-n}

pub loop-note-init : goal.loop-note-init
loop-note-init c =
    let e = ap length (ap (window c.args.start c.args.len) c.each-note-items.ensures.notes) in
    (omega arith, omega (arith, e))

pub loop-note-preserved : goal.loop-note-preserved
loop-note-preserved c =
    let start = c.args.start in
    let len = c.args.len in
    let n = c.from-n.result in
    let next = ap (window start len) (next_note c.each-note-items.result.now c.loop-note.note-index n _ c.loop-note-test.true c.from-n.ensures) in
    elim c.if-start-n.branch [
      | then-start-n+then-n-start w ↦
          let k = ap length (next ∙ inside start len n _ w.if-start-n.true w.if-n-start.true) in
          (omega (arith, w.count-is), omega (arith, k, w.count-is))
      | then-start-n+else-n-start w ↦
          let k = ap length (next ∙ behind start len n _ w.if-start-n.true w.if-n-start.false) in
          (omega (arith, w.count-is), omega (arith, k, w.count-is))
      | else-start-n w ↦
          let k = ap length (next ∙ before start len n _ w.if-start-n.false) in
          (omega (arith, w.count-is), omega (arith, k, w.count-is))
    ]

pub returns : goal.returns
returns c =
    let e = ap length (ap (window c.args.start c.args.len) (no_note c.each-note-items.result.now c.loop-note.note-index c.loop-note-test.false) ∙ win_none c.args.start c.args.len) in
    omega (arith, e)
