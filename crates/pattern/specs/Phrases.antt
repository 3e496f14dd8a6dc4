-- What a call gives: its notes with their pattern, or a refusal. What it answers and which words it writes follow from that and from the room.
use Rattle.std.specs.Prelude.{Bool, cond, List, [], ℕ, ◌/◌, leb, eqb, length}
use Rattle.numbers.specs.Answers.{Answer, accepted, refused, given, over}
use Rattle.notes.specs.declared.Note.{Note}
use Rattle.notes.specs.Notes.{words_of, refusal_of_one, refusal_of_two}
use Rattle.pattern.specs.declared.Pattern.{Pattern}
use Rattle.pattern.specs.declared.Wrote.{Wrote}

-- notes, and the pattern that they make
pub record Phrase : Type 0 where
  pub notes : List Note
  pub pattern : Pattern

abbrev pub phrase : List Note → ℕ → Phrase
phrase notes bars = record { notes = notes; pattern = record { bars = bars } }

abbrev pub wrote_of : ℕ → ℕ → Wrote
wrote_of notes bars = record { notes = notes; pattern = record { bars = bars } }

-- ---- the room

-- room is whole notes
abbrev pub room_for : Phrase → List ℕ → Bool
room_for made out = leb (length made.notes) (length out / 4)

-- the answer: 8 where there is no room for the notes
abbrev pub answered : Answer Phrase → List ℕ → Answer Wrote
answered (accepted made) out = cond (room_for made out) (accepted (record { notes = length made.notes; pattern = made.pattern })) (refused 8 [])
answered (refused number facts) out = refused number facts

-- the words afterwards: the notes first, and later words kept; a refusal changes none
abbrev pub written : Answer Phrase → List ℕ → List ℕ
written answer out = given (λ made. cond (room_for made out) (over (words_of made.notes) out) out) answer out

-- ---- the words that are given

-- refused where a number is not 0
abbrev pub unless : ℕ → Answer Phrase → Answer Phrase
unless number answer = cond (eqb number 0) answer (refused number [])

-- 3 where the words are not four a note, 4 where there are over 4,096 notes
abbrev pub if_notes : List ℕ → Answer Phrase → Answer Phrase
if_notes words answer = unless (refusal_of_one (length words)) answer

-- of two lists 3 of either goes before 4 of either
abbrev pub if_both : List ℕ → List ℕ → Answer Phrase → Answer Phrase
if_both a b answer = unless (refusal_of_two (length a) (length b)) answer
