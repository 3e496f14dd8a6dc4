-- What is left to write are the notes of the window among those that are left, for which there is room.
use Rattle.std.proofs.Common.{◌≡◌, ℕ, ◌-◌, ◌*◌, ◌++◌, length, drop, ap, ◌∙◌, arith}
use Rattle.notes.specs.Notes.{notes_of, words_of, placed}
use Rattle.notes.proofs.Laws.{begin_by, more_note, skip, finish, next_note, no_note}
use Rattle.rhythm.specs.Cuts.{window}
use Rattle.rhythm.proofs.Windows.{inside, behind, before, win_none}
use Rattle.rhythm.proofs.cutting.write_window.Goals as goal
use Rattle.rhythm.proofs.cutting.write_window.Goals.{then-start-n+then-step-len, then-start-n+else-step-len, else-start-n}

pub loop-note-init : goal.loop-note-init
loop-note-init c =
    let e = ap (window c.args.start c.args.len) c.each-note-items.ensures.notes in
    (omega (arith, ap length e), begin_by c.args.out.now (ap words_of e))

pub put_note-requires : goal.put_note-requires
put_note-requires c =
    let next = next_note c.each-note-items.result.now c.loop-note.note-index c.from-n.result _ c.loop-note-test.true c.from-n.ensures in
    let e = ap length (ap (window c.args.start c.args.len) next ∙ inside c.args.start c.args.len c.from-n.result _ c.if-start-n.true c.if-step-len.true) in
    omega (arith, e)

pub loop-note-preserved : goal.loop-note-preserved
unfolding words_of
loop-note-preserved c =
    let start = c.args.start in
    let len = c.args.len in
    let n = c.from-n.result in
    let next = ap (window start len) (next_note c.each-note-items.result.now c.loop-note.note-index n _ c.loop-note-test.true c.from-n.ensures) in
    elim c.if-start-n.branch [
      | then-start-n+then-step-len w ↦
          let e = next ∙ inside start len n _ w.if-start-n.true w.if-step-len.true in
          let k = ap length e in
          (omega (arith, k, w.o-is), rw (w.out-is, w.o-is, w.put_note.ensures, w.at.ensures) (more_note (placed (n.step - start) n) (omega (arith, k)) (ap words_of e) c.loop-note.invariant.1))
      | then-start-n+else-step-len w ↦
          let e = next ∙ behind start len n _ w.if-start-n.true w.if-step-len.false in
          let k = ap length e in
          (omega (arith, k, w.o-is), rw (w.out-is, w.o-is) (skip (ap words_of e) c.loop-note.invariant.1))
      | else-start-n w ↦
          let e = next ∙ before start len n _ w.if-start-n.false in
          let k = ap length e in
          (omega (arith, k, w.o-is), rw (w.out-is, w.o-is) (skip (ap words_of e) c.loop-note.invariant.1))
    ]

pub returns : goal.returns
unfolding words_of
returns c =
    let win = window c.args.start c.args.len (notes_of c.args.words.now) in
    let e = ap (window c.args.start c.args.len) (no_note c.each-note-items.result.now c.loop-note.note-index c.loop-note-test.false) ∙ win_none c.args.start c.args.len in
    let m : c.loop-note.o ≡ 4 * length win = omega (arith, ap length e) in
    finish _ _ _ _ _ (ap words_of e) c.loop-note.invariant.1 ∙ ap (λ (q : ℕ). words_of win ++ drop q c.args.out.now) m
