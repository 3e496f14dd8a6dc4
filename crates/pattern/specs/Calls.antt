-- The twelve calls: what each gives for the words and numbers that it is given. 3 and 4 go before 6, and 6 before 7; the room (8) is last (Phrases).
use Rattle.std.specs.Prelude.{true, false, ◌||◌, List, [], ◌∷◌, ◌++◌, map, ℕ, ◌+◌, ◌*◌, min, max, ltb, eqb, Float, ℤ}
use Rattle.numbers.specs.Lists.{entries}
use Rattle.numbers.specs.Answers.{Answer, accepted, refused}
use Rattle.notes.specs.declared.Note.{Note}
use Rattle.notes.specs.Notes.{notes_of}
use Rattle.notes.specs.Sorting.{sort_by_step}
use Rattle.rhythm.specs.Changes.{rotated, mirrored, snapped, scaled, gated}
use Rattle.rhythm.specs.Cuts.{window, grid_of, stretched}
use Rattle.rhythm.specs.Joins.{copies_from, joined}
use Rattle.rhythm.specs.Makes.{hit, hits_from, tuplet_step}
use Rattle.rhythm.specs.Values.{most_step, total_steps, bars_for, stretched_by}
use Rattle.pattern.specs.declared.Pattern.{Pattern}
use Rattle.pattern.specs.Phrases.{Phrase, phrase, if_notes, if_both}

-- ---- several patterns, or several copies of one

-- the pattern `times` times, one after the other
abbrev pub repeat_of : Pattern → List ℕ → ℕ → ℕ → Answer Phrase
repeat_of p words stepsPerBar times =
    if_notes words (accepted (phrase (copies_from (total_steps p.bars stepsPerBar) (notes_of words) 0 times) (min (p.bars * times) most_step)))

-- a, then b behind a's bars
abbrev pub concat_of : Pattern → List ℕ → Pattern → List ℕ → ℕ → Answer Phrase
concat_of a words b more stepsPerBar =
    if_both words more (accepted (phrase (joined (total_steps a.bars stepsPerBar) (notes_of words) (notes_of more)) (min (a.bars + b.bars) most_step)))

-- a and b at once, sorted by step: of equal steps a's notes go first
abbrev pub layer_of : Pattern → List ℕ → Pattern → List ℕ → Answer Phrase
layer_of a words b more = if_both words more (accepted (phrase (sort_by_step (notes_of words ++ notes_of more)) (max a.bars b.bars)))

-- ---- a part of a pattern, or all of it at another speed

-- the notes that start in the window, and the bars that hold its len
abbrev pub slice_of : Pattern → List ℕ → ℕ → ℕ → ℕ → Answer Phrase
slice_of p words start len stepsPerBar = if_notes words (accepted (phrase (window start len (notes_of words)) (bars_for len stepsPerBar)))

-- refused by 7 with its facts, where there are any
abbrev pub on_grid : List ℕ → Answer Phrase → Answer Phrase
on_grid [] answer = answer
on_grid (what ∷ facts) answer = refused 7 (what ∷ facts)

-- 6 where the ratio has a 0, then 7
abbrev pub stretch_of : Pattern → List ℕ → ℕ → ℕ → Answer Phrase
stretch_of p words num den =
    if_notes words
    (elim (eqb num 0 || eqb den 0) [
      | true ↦ refused 6 []
      | false ↦ on_grid (grid_of num den p.bars (notes_of words)) (accepted (phrase (map (stretched num den) (notes_of words)) (stretched_by num den p.bars)))
    ])

-- ---- each note changed in the same way: the pattern stays as it is

-- in their order
abbrev pub mapped : (Note → Note) → Pattern → List ℕ → Answer Phrase
mapped change p words = if_notes words (accepted (record { notes = map change (notes_of words); pattern = p }))

-- sorted by step, equal steps keeping their order
abbrev pub mapped_sorted : (Note → Note) → Pattern → List ℕ → Answer Phrase
mapped_sorted change p words = if_notes words (accepted (record { notes = sort_by_step (map change (notes_of words)); pattern = p }))

-- each step becomes (step + shift) mod the pattern's steps
abbrev pub rotate_of : Pattern → List ℕ → ℤ → ℕ → Answer Phrase
rotate_of p words shift stepsPerBar = mapped_sorted (rotated shift (total_steps p.bars stepsPerBar)) p words

-- each note mirrored in time
abbrev pub reverse_of : Pattern → List ℕ → ℕ → Answer Phrase
reverse_of p words stepsPerBar = mapped_sorted (mirrored (total_steps p.bars stepsPerBar)) p words

-- each step at the nearest multiple of the grid
abbrev pub quantize_of : Pattern → List ℕ → ℕ → Answer Phrase
quantize_of p words grid = mapped_sorted (snapped grid) p words

-- each gain times scale
abbrev pub vel_of : Pattern → List ℕ → Float → Answer Phrase
vel_of p words scale = mapped (scaled scale) p words

-- each len times factor
abbrev pub gate_of : Pattern → List ℕ → Float → Answer Phrase
gate_of p words factor = mapped (gated factor) p words

-- ---- patterns made from numbers

-- 6 where there are no steps, or more pulses than steps
abbrev pub euclidean_of : ℕ → ℕ → ℕ → ℕ → ℕ → Answer Phrase
euclidean_of pulses steps tag len stepsPerBar =
    elim (eqb steps 0 || ltb steps pulses) [
      | true ↦ refused 6 []
      | false ↦ accepted (phrase (hits_from pulses steps (hit len tag) 0 steps) (bars_for steps stepsPerBar))
    ]

-- one bar
abbrev pub tuplet_of : ℕ → ℕ → ℕ → ℕ → Answer Phrase
tuplet_of count steps tag len = accepted (phrase (entries (λ k. hit len tag (tuplet_step count steps k)) 0 count) 1)
