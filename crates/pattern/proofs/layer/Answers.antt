-- Tested, then joined and sorted where they lie.
use Rattle.std.proofs.Common.{◌≡◌, ℕ, max, ◌+◌, ◌*◌, List, ◌++◌, length, drop, ap, ◌∙◌, arith, rules}
use Rattle.notes.specs.declared.Note.{Note}
use Rattle.notes.specs.Notes.{notes_of, words_of}
use Rattle.notes.specs.Sorting.{sort_by_step}
use Rattle.notes.proofs.Laws.{length_words, length_sort, sort_front}
use Rattle.rhythm.proofs.Laws.{later_zero}
use Rattle.pattern.proofs.Joined.{count_both}
use Rattle.pattern.proofs.Outcomes.{two_sound, two_pass, no_room, wrote}
use Rattle.pattern.proofs.layer.Goals as goal

pub returns-then-size-out : goal.returns-then-size-out
returns-then-size-out c =
    let both = two_sound c.args.words.now c.args.more.now c.in_ok-tested.ensures in
    let all = notes_of c.args.words.now ++ notes_of c.args.more.now in
    let n = count_both c.args.words.now c.args.more.now both in
    let k = length_sort all in
    no_room _ (sort_by_step all) _ _ (two_pass c.args.words.now c.args.more.now c.in_ok-tested.ensures _) (omega arith)

pub returns : goal.returns
returns c =
    let most : c.max.result ≡ max c.args.a.bars c.args.b.bars = search rules in
    let both = two_sound c.args.words.now c.args.more.now c.in_ok-tested.ensures in
    let ns = notes_of c.args.words.now in
    let all = ns ++ notes_of c.args.more.now in
    let m = length c.args.words.now + length c.args.more.now in
    let n = count_both c.args.words.now c.args.more.now both in
    let k = length_sort all in
    let e : m ≡ 4 * length (sort_by_step all) = omega arith in
    -- the second list is moved by no step
    let plain = later_zero c.args.more.now (λ i. (c.type_inv.more i).fits) in
    let joins = c.join.ensures ∙ ap (λ (l : List Note). words_of (ns ++ l) ++ drop m c.args.out.now) plain in
    wrote _ (sort_by_step all) _ _ (two_pass c.args.words.now c.args.more.now c.in_ok-tested.ensures _) (omega arith) c.of.result c.of.ensures (omega arith) most
    (sort_front all c.args.out.now c.join.new.out c.sort_by_step.new.words m (length_words all ∙ omega arith) joins c.sort_by_step.ensures
    ∙ ap (λ (i : ℕ). words_of (sort_by_step all) ++ drop i c.args.out.now) e)
