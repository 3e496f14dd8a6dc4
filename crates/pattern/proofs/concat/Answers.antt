-- Tested, then joined.
use Rattle.std.proofs.Common.{ℕ, ◌+◌, ◌++◌, length, drop, sym, ap, ◌∙◌, arith}
use Rattle.notes.specs.Notes.{notes_of, words_of}
use Rattle.rhythm.specs.Joins.{joined}
use Rattle.rhythm.specs.Values.{total_steps}
use Rattle.pattern.proofs.Joined.{count_joined}
use Rattle.pattern.proofs.Outcomes.{two_sound, two_pass, no_room, wrote}
use Rattle.pattern.proofs.concat.Goals as goal

pub returns-then-size-out : goal.returns-then-size-out
returns-then-size-out c =
    let both = two_sound c.args.words.now c.args.more.now c.in_ok-tested.ensures in
    let off = total_steps c.args.a.bars c.args.steps_per_bar in
    let n = count_joined c.args.words.now c.args.more.now both off in
    no_room _ (joined off (notes_of c.args.words.now) (notes_of c.args.more.now)) _ _ (two_pass c.args.words.now c.args.more.now c.in_ok-tested.ensures _) (omega arith)

pub returns : goal.returns
returns c =
    let both = two_sound c.args.words.now c.args.more.now c.in_ok-tested.ensures in
    let off = total_steps c.args.a.bars c.args.steps_per_bar in
    let ns = notes_of c.args.words.now in
    let ms = notes_of c.args.more.now in
    let size = length c.args.words.now + length c.args.more.now in
    let n = count_joined c.args.words.now c.args.more.now both off in
    wrote _ (joined off ns ms) _ _ (two_pass c.args.words.now c.args.more.now c.in_ok-tested.ensures _) (omega arith) c.of.result c.of.ensures (omega arith) c.sum_bars.ensures
    (c.join.ensures
    ∙ ap (λ (k : ℕ). words_of (joined k ns ms) ++ drop size c.args.out.now) c.total-off.ensures
    ∙ ap (λ (k : ℕ). words_of (joined off ns ms) ++ drop k c.args.out.now) (sym n))
