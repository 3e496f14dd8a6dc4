-- The count so far and that of the notes that are left make the whole count.
use Rattle.std.proofs.Common.{◌≡◌, ◌≤◌, ◌+◌, map, length, drop}
use Rattle.notes.specs.Notes.{notes_of, note_of}
use Rattle.rhythm.specs.Cuts.{window}
use Rattle.rhythm.proofs.cutting.count_window.Given as goal

abbrev pub invariant-loop-note : goal.invariant-loop-note
invariant-loop-note l =
    (l.count ≤ l.note-index) × (l.count + length (window l.start l.len (map note_of (drop l.note-index l.note-items))) ≡ length (window l.start l.len (notes_of l.words)))
