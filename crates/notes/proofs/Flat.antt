-- Notes and their words: reading what was written gives the notes, and writing what was read gives the words, of whole notes.
use Rattle.std.proofs.Common.{List, [], ◌∷◌, ◌++◌, ◌≡◌, refl, ap, ℕ, ◌*◌, ◌/◌, ◌%◌, arith, length}
use Rattle.notes.specs.declared.Note.{Note}
use Rattle.notes.specs.Notes.{notes_of, words_of, note_words}

pub length_notes : (ws : List ℕ) → length (notes_of ws) ≡ length ws / 4
unfolding notes_of
length_notes (a ∷ b ∷ c ∷ d ∷ ws) = omega (arith, length_notes ws)
length_notes (a ∷ b ∷ c ∷ []) = refl
length_notes (a ∷ b ∷ []) = refl
length_notes (a ∷ []) = refl
length_notes [] = refl

pub length_words : (ns : List Note) → length (words_of ns) ≡ 4 * length ns
unfolding words_of
length_words [] = refl
length_words (n ∷ ns) = omega (arith, length_words ns)

pub words_append : (xs ys : List Note) → words_of (xs ++ ys) ≡ words_of xs ++ words_of ys
unfolding words_of
words_append [] ys = refl
words_append (n ∷ xs) ys = ap (λ (l : List ℕ). note_words n ++ l) (words_append xs ys)

-- the notes of notes' words
pub notes_words : (ns : List Note) → notes_of (words_of ns) ≡ ns
unfolding notes_of words_of
notes_words [] = refl
notes_words (n ∷ ns) = ap (λ (l : List Note). n ∷ l) (notes_words ns)

-- the words of the notes of whole words
pub words_notes : (ws : List ℕ) → length ws % 4 ≡ 0 → words_of (notes_of ws) ≡ ws
unfolding notes_of words_of
words_notes (a ∷ b ∷ c ∷ d ∷ ws) h = ap (λ (l : List ℕ). a ∷ b ∷ c ∷ d ∷ l) (words_notes ws (omega arith))
words_notes (a ∷ b ∷ c ∷ []) h = absurd (omega arith)
words_notes (a ∷ b ∷ []) h = absurd (omega arith)
words_notes (a ∷ []) h = absurd (omega arith)
words_notes [] h = refl

pub notes_append : (a b : List ℕ) → length a % 4 ≡ 0 → notes_of (a ++ b) ≡ notes_of a ++ notes_of b
unfolding notes_of
notes_append (p ∷ q ∷ r ∷ s ∷ a) b h = ap (λ (l : List Note). record { step = p; len = q; gain = r; tag = s } ∷ l) (notes_append a b (omega arith))
notes_append (p ∷ q ∷ r ∷ []) b h = absurd (omega arith)
notes_append (p ∷ q ∷ []) b h = absurd (omega arith)
notes_append (p ∷ []) b h = absurd (omega arith)
notes_append [] b h = refl
