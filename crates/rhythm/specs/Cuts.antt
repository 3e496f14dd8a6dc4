-- The notes of a window, and notes at another speed with the test of the grid.
use Rattle.std.specs.Prelude.{ℕ, suc, ◌+◌, ◌-◌, ◌*◌, ◌%◌, true, false, ◌&&◌, List, [], ◌∷◌, ◌==◌, nat_le, nat_lt}
use Rattle.notes.specs.declared.Note.{Note}
use Rattle.notes.specs.Notes.{placed}
use Rattle.numbers.specs.Answers.{Answer, accepted, refused}
use Rattle.rhythm.specs.Values.{stretched_by}

-- ---- a window

-- the notes with start ≤ step < start + len, counted from start
unfoldable pub window : ℕ → ℕ → List Note → List Note
window start len [] = []
window start len (n ∷ rest) =
    elim (nat_le start n.step && nat_lt n.step (start + len)) [
      | true ↦ placed (n.step - start) n ∷ window start len rest
      | false ↦ window start len rest
    ]

-- ---- another speed

-- the first note from `place` on whose step (1), or else len (2), falls between steps: what, place and the value as given; nothing where none does
unfoldable pub note_grid : ℕ → ℕ → ℕ → List Note → List ℕ
note_grid num den place [] = []
note_grid num den place (n ∷ rest) =
    elim (n.step * num % den == 0) [
      | true ↦ elim (n.len * num % den == 0) [ true ↦ note_grid num den (suc place) rest | false ↦ 2 ∷ place ∷ n.len ∷ [] ]
      | false ↦ 1 ∷ place ∷ n.step ∷ []
    ]

-- the bars (0) first, then each note
unfoldable pub grid_of : ℕ → ℕ → ℕ → List Note → List ℕ
grid_of num den bars notes = elim (bars * num % den == 0) [ true ↦ note_grid num den 0 notes | false ↦ 0 ∷ 0 ∷ bars ∷ [] ]

-- refused by 7 with these facts, where there are any
abbrev pub grid_answer : List ℕ → Answer (Unit {0})
grid_answer [] = accepted tt
grid_answer (what ∷ facts) = refused 7 (what ∷ facts)

-- a note with its step and its len times num / den
abbrev pub stretched : ℕ → ℕ → Note → Note
stretched num den n = record { step = stretched_by num den n.step; len = stretched_by num den n.len; gain = n.gain; tag = n.tag }
