-- Tested, then copied: as many notes as there were.
use Rattle.std.proofs.Common.{◌≡◌, ℕ, ◌*◌, ◌/◌, List, ◌++◌, map, length, drop, refl, sym, ap, ◌∙◌, arith}
use Rattle.std.proofs.lemmas.List.{length-map}
use Rattle.notes.specs.declared.Note.{Note}
use Rattle.notes.specs.Notes.{notes_of, words_of}
use Rattle.notes.proofs.Laws.{length_notes}
use Rattle.pattern.proofs.Outcomes.{one_sound, one_passes, no_room, wrote}
use Rattle.pattern.proofs.mapping.each.Goals as goal

-- as many notes are written as there were
count : (how : Note → Note) (ws : List ℕ) → length (map how (notes_of ws)) ≡ length ws / 4
count how ws = simp (length-map, length_notes)

pub returns-then-words-out-clause-outcome : goal.returns-then-words-out-clause-outcome
returns-then-words-out-clause-outcome g c = λ how gives.
    let ws = c.args.words.now in
    let w = one_sound ws c.in_ok-tested.ensures in
    no_room _ (map how (notes_of ws)) _ _ (one_passes ws c.in_ok-tested.ensures _) (omega (arith, count how ws))

pub returns-clause-outcome : goal.returns-clause-outcome
returns-clause-outcome g c = λ how gives.
    let ws = c.args.words.now in
    let w = one_sound ws c.in_ok-tested.ensures in
    let made = map how (notes_of ws) in
    let n = count how ws in
    let e : length ws ≡ 4 * length made = omega arith in
    wrote _ made _ _ (one_passes ws c.in_ok-tested.ensures _) (omega arith) c.of.result c.of.ensures (sym n) refl
    (c.copy.ensures how gives ∙ ap (λ (k : ℕ). words_of made ++ drop k c.args.out.now) e)
