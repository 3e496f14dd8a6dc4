-- A note can be told from its words, so no two notes stand at one place.
use Rattle.std.proofs.Common.{◌≡◌, sym, ap, ◌∙◌, List, [], ◌∷◌, ◌++◌, ℕ}
use Rattle.notes.specs.declared.Note.{Note}
use Rattle.notes.specs.Notes.{note_words}

first : List ℕ → Note
first (step ∷ len ∷ gain ∷ tag ∷ rest) = record { step = step; len = len; gain = gain; tag = tag }
first (step ∷ len ∷ gain ∷ []) = record { step = 0; len = 0; gain = 0; tag = 0 }
first (step ∷ len ∷ []) = record { step = 0; len = 0; gain = 0; tag = 0 }
first (step ∷ []) = record { step = 0; len = 0; gain = 0; tag = 0 }
first [] = record { step = 0; len = 0; gain = 0; tag = 0 }

pub one_note : (words rest : List ℕ) (n m : Note) → words ≡ note_words n ++ rest → words ≡ note_words m ++ rest → n ≡ m
unfolding first
one_note words rest n m e f = ap first (sym e ∙ f)
