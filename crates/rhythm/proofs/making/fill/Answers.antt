-- What is left to write is the row from note k on.
use Rattle.std.proofs.Common.{◌≡◌, ℕ, ◌+◌, ◌*◌, ◌++◌, drop, max, ap, ◌∙◌, arith, rules}
use Rattle.std.proofs.Math.Nat.{sub-zero}
use Rattle.numbers.specs.Lists.{entries}
use Rattle.notes.specs.declared.Note.{Note}
use Rattle.notes.specs.Notes.{words_of}
use Rattle.notes.proofs.Laws.{begin_by, more_note, finish, move}
use Rattle.rhythm.specs.Makes.{hit}
use Rattle.rhythm.proofs.Even.{row_turn, row_end}
use Rattle.rhythm.proofs.making.fill.Goals as goal

pub loop-k-init : goal.loop-k-init
loop-k-init g c = λ at places. begin_by _ (rw sub-zero)

pub loop-k-preserved : goal.loop-k-preserved
loop-k-preserved g c = λ at places.
    let note : ℕ → Note = λ k. hit c.args.len c.args.tag (at k) in
    let m : Note = record { step = c.place.result; len = c.max-long.result; gain = 0x3f80_0000; tag = c.args.tag } in
    let long : c.max-long.result ≡ max c.args.len 1 = search rules in
    let s = places c.loop-k.k c.place.result c.loop-k-test.true c.place.ensures in
    let q : m ≡ note c.loop-k.k = λ i. record { step = s i; len = long i; gain = 0x3f80_0000; tag = c.args.tag } in
    let w = c.loop-k.invariant at places in
    move {o = 4 * c.loop-k.k + 4} (omega arith)
    (rw c.put_note.ensures (more_note m (omega (arith, w.same)) (row_turn note c.loop-k.k c.args.count m c.loop-k-test.true q) w))

pub returns : goal.returns
returns g c = λ at places.
    let note : ℕ → Note = λ k. hit c.args.len c.args.tag (at k) in
    let e : 4 * c.loop-k.k ≡ 4 * c.args.count = omega arith in
    finish _ _ _ _ _ (row_end note c.loop-k.k c.args.count c.loop-k-test.false) (c.loop-k.invariant at places)
    ∙ ap (λ (k : ℕ). words_of (entries note 0 c.args.count) ++ drop k c.args.out.now) e
