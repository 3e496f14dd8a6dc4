-- The four words from i on, and the rest.
use Rattle.numbers.proofs.Laws.{drop_four}
use Rattle.notes.proofs.words.note_at.Goals as goal

pub returns : goal.returns
returns c =
    drop_four c.args.words.now c.args.i c.requires
