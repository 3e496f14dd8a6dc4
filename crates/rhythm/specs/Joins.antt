-- Notes moved later, copied behind one another, and joined.
use Rattle.std.specs.Prelude.{ℕ, zero, suc, ◌*◌, List, [], ◌++◌, map}
use Rattle.notes.specs.declared.Note.{Note}
use Rattle.notes.specs.Notes.{placed}
use Rattle.rhythm.specs.Values.{later_step}

-- a note so many steps later
abbrev pub later : ℕ → Note → Note
later off n = placed (later_step off n.step) n

-- so many copies of the notes, copy i being i times `stride` steps later
unfoldable pub copies_from : ℕ → List Note → ℕ → ℕ → List Note
copies_from stride notes i zero = []
copies_from stride notes i (suc more) = map (later (i * stride)) notes ++ copies_from stride notes (suc i) more

-- a's notes, then b's, so many steps later
abbrev pub joined : ℕ → List Note → List Note → List Note
joined off a b = a ++ map (later off) b
