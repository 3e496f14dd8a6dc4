-- Document 01's list "Both sides of each edge": the cases that it marks to be proved, as one table of questions and answers.
-- proofs/Holds.antt has the one statement, that each question's definition gives the answer beside it.
use Rattle.std.specs.Prelude.{Bool, true, false, List, [], ◌∷◌, ◌++◌, map, ℕ, ℤ, pos, negsuc, neg_ℤ, Option, Some, None}
use Rattle.std.specs.Float.{fin}
use Rattle.std.specs.declared.cmp.Ordering.{Ordering}
use Rattle.std.specs.declared.cmp.Ordering.TheVariants.{Less, Equal, Greater}
use Rattle.numbers.specs.Answers.{Answer, accepted, refused}
use Rattle.beats.specs.declared.Beat.{Beat}
use Rattle.beats.specs.Beats.{new_beat}
use Rattle.beats.specs.Sums.{add_answer, order_answer}
use Rattle.meter.specs.Answers.{count_answer}
use Rattle.transport.specs.declared.PlayState.TheVariants.{Playing}
use Rattle.transport.specs.declared.Transport.{Transport}
use Rattle.transport.specs.Transports.{made, moved_to, looping_by}
use Rattle.transport.specs.Changes.{Handed}
use Rattle.transport.specs.Advances.{Moves, advance_answer}
use Rattle.cues.specs.CueCall.{Said, cue_answer, cue_after}
use Rattle.notes.specs.declared.Note.{Note}
use Rattle.pattern.specs.declared.Pattern.{Pattern}
use Rattle.pattern.specs.Phrases.{Phrase}
use Rattle.pattern.specs.Calls.{euclidean_of, tuplet_of, rotate_of, reverse_of}

-- ---- questions

pub data Question : Type 0 where
  new : ℤ → ℕ → Question
  add : Beat → Beat → Question
  order : Beat → Beat → Question
  count : List ℕ → ℕ → Option Beat → Beat → Question
  advance : Transport → ℕ → Question
  -- the transport, the lines, the frames and the output
  cue : Transport → List ℕ → ℕ → List ℕ → Question
  euclidean : ℕ → ℕ → Question
  tuplet : ℕ → ℕ → Question
  rotate : List ℕ → ℤ → Question
  reverse : List ℕ → Question

-- ---- answers: the values, as whole numbers

abbrev pub read : {A : Type 0} → (A → List ℤ) → Answer A → Answer (List ℤ)
read values (accepted a) = accepted (values a)
read values (refused n facts) = refused n facts

abbrev pub of_beat : Beat → List ℤ
of_beat beat = beat.num ∷ pos beat.den ∷ []

-- -1, 0 or 1
abbrev pub of_order : Ordering → List ℤ
of_order Less = negsuc 0 ∷ []
of_order Equal = pos 0 ∷ []
of_order Greater = pos 1 ∷ []

abbrev pub of_number : ℕ → List ℤ
of_number n = pos n ∷ []

-- 1 or 0
abbrev pub of_bool : Bool → ℤ
of_bool true = pos 1
of_bool false = pos 0

-- where it stands, whether it wrapped, whether it finished
abbrev pub stands_at : ℕ → Bool → Bool → List ℤ
stands_at position wrapped finished = pos position ∷ of_bool wrapped ∷ of_bool finished ∷ []

abbrev pub of_advance : Handed Moves → Answer (List ℤ)
of_advance handed = read (λ moves. stands_at handed.transport.position moves.0 moves.1) handed.answer

-- the same, the number of cues, and the words of the output
abbrev pub cued : ℕ → Bool → Bool → ℕ → List ℕ → List ℤ
cued position wrapped finished number words = stands_at position wrapped finished ++ map pos (number ∷ words)

abbrev pub of_cues : Handed Said → List ℕ → Answer (List ℤ)
of_cues handed words = read (λ said. cued handed.transport.position said.wrapped said.finished said.count words) handed.answer

-- the steps of the notes
abbrev pub of_phrase : Phrase → List ℤ
of_phrase made = map (λ (n : Note). pos n.step) made.notes

-- a pattern of one bar, which the questions below take to be of 16 steps
abbrev pub one_bar : Pattern
one_bar = record { bars = 1 }

abbrev pub answer : Question → Answer (List ℤ)
answer (new num den) = accepted (of_beat (new_beat num den))
answer (add a b) = read of_beat (add_answer a b)
answer (order a b) = read of_order (order_answer a b)
answer (count words default pickup beat) = read of_number (count_answer words default pickup beat)
answer (advance t frames) = of_advance (advance_answer t frames)
answer (cue t lines frames out) = of_cues (cue_answer t lines frames out) (cue_after t lines frames out)
answer (euclidean pulses steps) = read of_phrase (euclidean_of pulses steps 0 1 16)
answer (tuplet notes steps) = read of_phrase (tuplet_of notes steps 0 1)
answer (rotate words shift) = read of_phrase (rotate_of one_bar words shift 16)
answer (reverse words) = read of_phrase (reverse_of one_bar words 16)

-- ---- the table

infixl 70 ◌//◌
abbrev pub ◌//◌ : ℤ → ℕ → Beat
num // den = record { num = num; den = den }

abbrev pub minus : ℕ → ℤ
minus n = neg_ℤ (pos n)

-- one point, 4/4 from bar 0 on
abbrev pub four_four : List ℕ
four_four = 0 ∷ 4 ∷ 4 ∷ []

-- playing at a position, with the loop 100..300 and the length 1000, at the tempo 120, which is 15 * 2 ^ 3
abbrev pub looped : ℕ → Transport
looped position = moved_to (looping_by (made 48000 (fin false 15 (pos 3)) 4 1000 None) (Some (record { start = 100; end = 300 }))) position Playing

-- one note, at a step and so long
abbrev pub note : ℕ → ℕ → List ℕ
note step len = step ∷ len ∷ 0 ∷ 0 ∷ []

-- each row a question, and the answer that document 01 gives
abbrev pub table : List (Question × Answer (List ℤ))
table =
    (new (pos 6) 8, accepted (of_beat (pos 3 // 4)))
    ∷ (new (pos 0) 7, accepted (of_beat (pos 0 // 1)))
    ∷ (new (pos 5) 0, accepted (of_beat (pos 5 // 1)))
    ∷ (add (pos 1 // 65536) (pos 1 // 65536), refused 2 [])
    ∷ (add (pos 1 // 65535) (pos 1 // 65536), accepted (of_beat (pos 131071 // 4294901760)))
    ∷ (order (minus 1 // 2) (minus 1 // 3), accepted (of_order Less))
    ∷ (count four_four 4 (Some (pos 1 // 1)) (pos 0 // 1), accepted (of_number 0))
    ∷ (count four_four 4 (Some (pos 1 // 1)) (pos 1 // 1), accepted (of_number 1))
    ∷ (count four_four 4 (Some (pos 1 // 1)) (pos 9 // 1), accepted (of_number 3))
    ∷ (count four_four 4 (Some (pos 1 // 1)) (pos 28 // 3), accepted (of_number 4))
    ∷ (count four_four 4 (Some (pos 0 // 1)) (pos 1 // 2), accepted (of_number 2))
    ∷ (count four_four 4 None (pos 8589934592 // 1), accepted (of_number 2147483648))
    ∷ (count four_four 4 None (pos 8589934593 // 1), accepted (of_number 4294967295))
    ∷ (advance (looped 350) 0, accepted (stands_at 150 true false))
    ∷ (cue (looped 250) (0 ∷ 100 ∷ 200 ∷ 300 ∷ []) 300 (0 ∷ 0 ∷ 0 ∷ 0 ∷ 0 ∷ 0 ∷ []), accepted (cued 150 true false 3 (50 ∷ 1 ∷ 150 ∷ 2 ∷ 250 ∷ 1 ∷ [])))
    ∷ (euclidean 3 8, accepted (pos 0 ∷ pos 3 ∷ pos 6 ∷ []))
    ∷ (euclidean 0 8, accepted [])
    ∷ (tuplet 3 4, accepted (pos 0 ∷ pos 1 ∷ pos 3 ∷ []))
    ∷ (rotate (note 0 1) (minus 1), accepted (pos 15 ∷ []))
    ∷ (reverse (note 14 4), accepted (pos 0 ∷ []))
    ∷ []
