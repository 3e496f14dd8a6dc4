-- Tested in the order of the refusals, then copied.
use Rattle.std.proofs.Common.{◌≡◌, ℕ, ◌*◌, ◌/◌, List, ◌++◌, map, length, drop, sym, ap, ◌∙◌, arith, rules}
use Rattle.std.proofs.lemmas.List.{length-map}
use Rattle.notes.specs.Notes.{notes_of, words_of}
use Rattle.notes.proofs.Laws.{length_notes}
use Rattle.rhythm.specs.Cuts.{stretched}
use Rattle.pattern.proofs.Outcomes.{one_sound, no_room, wrote}
use Rattle.pattern.proofs.Ratio.{fits}
use Rattle.pattern.proofs.stretch.Goals as goal

-- as many notes are written as there were
count : (num den : ℕ) (ws : List ℕ) → length (map (stretched num den) (notes_of ws)) ≡ length ws / 4
count num den ws = simp (length-map, length_notes)

pub returns-then-words-out : goal.returns-then-words-out
returns-then-words-out c =
    let a = c.args in
    let w = one_sound c.args.words.now c.in_ok-tested.ensures in
    let n = count a.num a.den a.words.now in
    no_room _ (map (stretched a.num a.den) (notes_of a.words.now)) _ _
    (fits a.p a.words.now a.num a.den c.in_ok-tested.ensures c.if-num-eq0.false c.if-den-eq0.false c.in_ok-off_grid.ensures)
    (omega arith)

pub returns : goal.returns
returns c =
    let a = c.args in
    let w = one_sound c.args.words.now c.in_ok-tested.ensures in
    let all = map (stretched a.num a.den) (notes_of a.words.now) in
    let n = count a.num a.den a.words.now in
    let e : length a.words.now ≡ 4 * length all = omega arith in
    wrote _ all _ _
    (fits a.p a.words.now a.num a.den c.in_ok-tested.ensures c.if-num-eq0.false c.if-den-eq0.false c.in_ok-off_grid.ensures)
    (omega arith) c.of.result c.of.ensures (sym n) c.stretched.ensures
    (c.copy.ensures (stretched a.num a.den) (λ n m given. search rules) ∙ ap (λ (k : ℕ). words_of all ++ drop k a.out.now) e)
