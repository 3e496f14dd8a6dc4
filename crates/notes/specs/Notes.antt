-- Notes as flat words: a note is four words, step, len, gain bits and tag.
use Rattle.std.specs.Prelude.{cond, ◌&&◌, not, List, [], ◌∷◌, ℕ, ◌%◌, leb, ltb, eqb, slice_index}
use Rattle.std.specs.List.{list_any}
use Rattle.numbers.specs.Answers.{Answer, accepted, refused}
use Rattle.notes.specs.declared.Note.{Note}

-- the notes that a list of words holds; words behind the last whole note are none
unfoldable pub notes_of : List ℕ → List Note
notes_of (step ∷ len ∷ gain ∷ tag ∷ rest) = record { step = step; len = len; gain = gain; tag = tag } ∷ notes_of rest
notes_of (step ∷ len ∷ gain ∷ []) = []
notes_of (step ∷ len ∷ []) = []
notes_of (step ∷ []) = []
notes_of [] = []

-- the note of four words
abbrev pub note_of : List ℕ → Note
note_of words = record { step = slice_index words 0; len = slice_index words 1; gain = slice_index words 2; tag = slice_index words 3 }

-- the words of a note
abbrev pub note_words : Note → List ℕ
note_words n = n.step ∷ n.len ∷ n.gain ∷ n.tag ∷ []

-- the words of notes, one behind another
unfoldable pub words_of : List Note → List ℕ
words_of [] = []
words_of (n ∷ ns) = n.step ∷ n.len ∷ n.gain ∷ n.tag ∷ words_of ns

-- a note at another step
abbrev pub placed : ℕ → Note → Note
placed step n = record { step = step; len = n.len; gain = n.gain; tag = n.tag }

-- ---- the number that refuses note words by their count, or 0

-- 3 where they are not four a note, 4 where they are over 4,096 notes
abbrev pub refusal_of_one : ℕ → ℕ
refusal_of_one words = cond (eqb (words % 4) 0) (cond (leb words 16384) 0 4) 3

-- of two lists: 3 of either, then 4 of either
abbrev pub refusal_of_two : ℕ → ℕ → ℕ
refusal_of_two a b = cond (eqb (a % 4) 0 && eqb (b % 4) 0) (cond (leb a 16384 && leb b 16384) 0 4) 3

-- of so many lists: 3 of any, then 4 of any
abbrev pub refusal_of : List ℕ → ℕ
refusal_of counts = cond (list_any (λ n. not (eqb (n % 4) 0)) counts) 3 (cond (list_any (λ n. ltb 16384 n) counts) 4 0)

-- refused by a number that is not 0
abbrev pub passed_by : ℕ → Answer (Unit {0})
passed_by number = cond (eqb number 0) (accepted tt) (refused number [])
