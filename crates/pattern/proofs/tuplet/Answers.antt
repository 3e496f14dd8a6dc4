-- The room, then the row.
use Rattle.std.proofs.Common.{◌≡◌, ℕ, ◌*◌, ◌++◌, length, drop, refl, ap, ◌∙◌, arith, rules}
use Rattle.numbers.specs.Lists.{entries}
use Rattle.numbers.proofs.Laws.{entries_length}
use Rattle.notes.specs.Notes.{words_of}
use Rattle.rhythm.specs.Makes.{hit, tuplet_step}
use Rattle.pattern.proofs.Outcomes.{no_room, wrote}
use Rattle.pattern.proofs.tuplet.Goals as goal

pub returns-then-count-out : goal.returns-then-count-out
returns-then-count-out c =
    let all = entries (λ (k : ℕ). hit c.args.len c.args.tag (tuplet_step c.args.count c.args.steps k)) 0 c.args.count in
    let n : length all ≡ c.args.count = entries_length _ 0 c.args.count in
    no_room _ all _ _ refl (omega arith)

pub returns : goal.returns
returns c =
    let all = entries (λ (k : ℕ). hit c.args.len c.args.tag (tuplet_step c.args.count c.args.steps k)) 0 c.args.count in
    let n : length all ≡ c.args.count = entries_length _ 0 c.args.count in
    let e : 4 * c.args.count ≡ 4 * length all = omega arith in
    wrote _ all _ _ refl (omega arith) c.of.result c.of.ensures (omega arith) refl
    (c.fill.ensures (tuplet_step c.args.count c.args.steps) (λ k s h given. search rules) ∙ ap (λ (k : ℕ). words_of all ++ drop k c.args.out.now) e)
