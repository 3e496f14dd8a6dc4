-- What is left to write are the changed notes of those that are left.
use Rattle.std.proofs.Common.{◌*◌, map, drop}
use Rattle.notes.specs.declared.Note.{Note}
use Rattle.notes.specs.Notes.{notes_of, words_of, note_of}
use Rattle.notes.proofs.Laws.{Writing}
use Rattle.rhythm.specs.Changes.{Gives}
use Rattle.rhythm.proofs.changing.copy.Given as goal

abbrev pub invariant-loop-k : goal.invariant-loop-k
invariant-loop-k g l =
    (how : Note → Note) → Gives (λ n m. goal.F-post g l.change n m) how → Writing l.initial.out l.out (4 * l.k) (words_of (map how (map note_of (drop l.k l.note-items)))) (words_of (map how (notes_of l.words)))
