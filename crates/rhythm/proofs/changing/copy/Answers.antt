-- What is left to write are the changed notes of those that are left.
use Rattle.std.proofs.Common.{◌≡◌, ℕ, ◌+◌, ◌*◌, List, ◌∷◌, ◌++◌, map, length, drop, sym, ap, ◌∙◌, arith}
use Rattle.notes.specs.declared.Note.{Note}
use Rattle.notes.specs.Notes.{notes_of, words_of, note_words}
use Rattle.notes.proofs.Laws.{begin_by, more_note, move, finish, next_note, no_note}
use Rattle.rhythm.proofs.changing.copy.Goals as goal

-- what is written for some notes
abbrev emit : (Note → Note) → List Note → List ℕ
emit how ns = words_of (map how ns)

-- one note of it
emit-note : (how : Note → Note) (ns rest : List Note) (n m : Note) → ns ≡ n ∷ rest → m ≡ how n → emit how ns ≡ note_words m ++ emit how rest
unfolding words_of
emit-note how ns rest n m e q = ap (emit how) e ∙ ap (λ (x : Note). note_words x ++ emit how rest) (sym q)

pub loop-k-init : goal.loop-k-init
loop-k-init g c = λ how gives. begin_by c.args.out.now (ap (emit how) c.each-note-items.ensures.notes)

pub loop-k-preserved : goal.loop-k-preserved
loop-k-preserved g c = λ how gives.
    let next = next_note c.each-note-items.result.now c.loop-k.k c.from.result _ c.loop-k-test.true c.from.ensures in
    let w = c.loop-k.invariant how gives in
    move {o = 4 * c.loop-k.k + 4} (omega arith)
    (rw c.put_note.ensures (more_note c.change.result (omega (arith, w.same)) (emit-note how _ _ c.from.result c.change.result next (gives _ _ c.change.ensures)) w))

pub returns : goal.returns
unfolding words_of
returns g c = λ how gives.
    let e : 4 * c.loop-k.k ≡ length c.args.words.now = omega arith in
    finish _ _ _ _ _ (ap (emit how) (no_note c.each-note-items.result.now c.loop-k.k c.loop-k-test.false)) (c.loop-k.invariant how gives)
    ∙ ap (λ (k : ℕ). emit how (notes_of c.args.words.now) ++ drop k c.args.out.now) e
