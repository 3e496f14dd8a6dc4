-- The words are cut by four.
use Rattle.std.proofs.Common.{ap, ◌∙◌, map}
use Rattle.notes.specs.Notes.{note_of}
use Rattle.notes.proofs.Chunks.{notes_chunks}
use Rattle.notes.proofs.words.each.Goals as goal

pub returns-clause-notes : goal.returns-clause-notes
returns-clause-notes c = ap (map note_of) c.as_chunks.ensures.front ∙ notes_chunks c.args.words.now
