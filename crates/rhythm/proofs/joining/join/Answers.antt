-- The second list is written into the room behind the first, which is moved by no step.
use Rattle.std.proofs.Common.{◌≡◌, ℕ, ◌+◌, List, ◌++◌, map, length, drop, sym, ap, ◌∙◌, arith, rules}
use Rattle.std.proofs.lemmas.List.{map-id}
use Rattle.notes.specs.declared.Note.{Note}
use Rattle.notes.specs.Notes.{notes_of, words_of}
use Rattle.notes.proofs.Laws.{length_notes, length_words, words_append, behind}
use Rattle.rhythm.specs.Joins.{later}
use Rattle.rhythm.proofs.joining.join.Goals as goal

pub returns : goal.returns
returns c =
    let second = map (later c.args.off) (notes_of c.args.b.now) in
    let la : length (words_of (notes_of c.args.a.now)) ≡ length c.args.a.now = length_words (notes_of c.args.a.now) ∙ omega (arith, length_notes c.args.a.now) in
    behind (words_of (notes_of c.args.a.now)) (words_of second) c.args.out.now c.copy.new.out c.copy-2.new.out (length c.args.a.now) (length c.args.b.now) la
    (c.copy.ensures (λ (n : Note). n) (λ n m given. search rules) ∙ ap (λ (l : List Note). words_of l ++ drop (length c.args.a.now) c.args.out.now) (map-id (notes_of c.args.a.now)))
    (c.copy-2.ensures (later c.args.off) (λ n m given. search rules))
    ∙ ap (λ (l : List ℕ). l ++ drop (length c.args.a.now + length c.args.b.now) c.args.out.now) (sym (words_append (notes_of c.args.a.now) second))
