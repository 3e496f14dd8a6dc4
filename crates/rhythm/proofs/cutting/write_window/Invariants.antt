-- What is left to write are the notes of the window among those that are left, for which there is room.
use Rattle.std.proofs.Common.{◌≡◌, ◌+◌, ◌*◌, map, length, drop}
use Rattle.notes.specs.Notes.{notes_of, words_of, note_of}
use Rattle.notes.proofs.Laws.{Writing}
use Rattle.rhythm.specs.Cuts.{window}
use Rattle.rhythm.proofs.cutting.write_window.Given as goal

abbrev pub invariant-loop-note : goal.invariant-loop-note
invariant-loop-note l =
    (l.o + 4 * length (window l.start l.len (map note_of (drop l.note-index l.note-items))) ≡ 4 * length (window l.start l.len (notes_of l.words)))
    × Writing l.initial.out l.out l.o (words_of (window l.start l.len (map note_of (drop l.note-index l.note-items)))) (words_of (window l.start l.len (notes_of l.words)))
