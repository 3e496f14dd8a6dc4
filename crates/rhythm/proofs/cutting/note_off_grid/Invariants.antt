-- What the walk finds from here on is what it finds in all.
use Rattle.std.proofs.Common.{◌≡◌, map, drop}
use Rattle.notes.specs.Notes.{notes_of, note_of}
use Rattle.rhythm.specs.Cuts.{note_grid}
use Rattle.rhythm.proofs.cutting.note_off_grid.Given as goal

abbrev pub invariant-loop-place : goal.invariant-loop-place
invariant-loop-place l = note_grid l.num l.den l.place (map note_of (drop l.place l.note-items)) ≡ note_grid l.num l.den 0 (notes_of l.words)
