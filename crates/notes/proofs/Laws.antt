-- What crates above may use of this one.

-- notes and their words
pub use Rattle.notes.proofs.Flat.{length_notes, length_words, words_append, notes_words, words_notes, notes_append}
-- words four by four
pub use Rattle.notes.proofs.Chunks.{notes_chunks, next_note, no_note}
-- a loop that writes words into a lent slice from its front
pub use Rattle.notes.proofs.Writing.{Writing, begin, begin_by, more_note, skip, move, finish}
-- the rest of an output, lent from its middle
pub use Rattle.notes.proofs.Parts.{mid_behind, post_behind, behind, more_part}
-- the sort ascends, keeps the notes of each step in their order, rearranges, and is the only one that does: the promise of specs/Promise
pub use Rattle.notes.proofs.Stable.{promised}
-- sorted words
pub use Rattle.notes.proofs.Sorted.{sorted, length_sort, length_sorted, sort_front}
-- counts of words that are not refused
pub use Rattle.notes.proofs.Whole.{One, one, Two, two, of_one, of_two}
