-- Tested, then copied as often as asked.
use Rattle.std.proofs.Common.{ℕ, ◌*◌, ◌++◌, length, drop, sym, ap, ◌∙◌, arith}
use Rattle.notes.specs.Notes.{notes_of, words_of}
use Rattle.rhythm.specs.Joins.{copies_from}
use Rattle.rhythm.specs.Values.{total_steps}
use Rattle.rhythm.proofs.Laws.{count_copies}
use Rattle.pattern.proofs.Outcomes.{one_sound, one_passes, no_room, wrote}
use Rattle.pattern.proofs.repeat.Goals as goal

pub returns-then-size-out : goal.returns-then-size-out
returns-then-size-out c =
    let w = one_sound c.args.words.now c.in_ok-tested.ensures in
    let all = copies_from (total_steps c.args.p.bars c.args.steps_per_bar) (notes_of c.args.words.now) 0 c.args.times in
    let n = count_copies c.args.words.now (total_steps c.args.p.bars c.args.steps_per_bar) c.args.times w.even in
    no_room _ all _ _ (one_passes c.args.words.now c.in_ok-tested.ensures _) (omega arith)

pub returns : goal.returns
returns c =
    let w = one_sound c.args.words.now c.in_ok-tested.ensures in
    let stride = total_steps c.args.p.bars c.args.steps_per_bar in
    let ns = notes_of c.args.words.now in
    let all = copies_from stride ns 0 c.args.times in
    let n = count_copies c.args.words.now stride c.args.times w.even in
    wrote _ all _ _ (one_passes c.args.words.now c.in_ok-tested.ensures _) (omega arith) c.of.result c.of.ensures (omega arith) c.times_bars.ensures
    (c.copies.ensures
    ∙ ap (λ (k : ℕ). words_of (copies_from k ns 0 c.args.times) ++ drop (length c.args.words.now * c.args.times) c.args.out.now) c.total-stride.ensures
    ∙ ap (λ (k : ℕ). words_of all ++ drop k c.args.out.now) (sym n))
