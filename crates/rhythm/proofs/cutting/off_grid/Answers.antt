-- The bars, then the notes.
use Rattle.std.proofs.Common.{sym, ap, ◌∙◌}
use Rattle.notes.specs.Notes.{notes_of}
use Rattle.rhythm.specs.Cuts.{grid_answer}
use Rattle.rhythm.proofs.Gridding.{bars_off, bars_on}
use Rattle.rhythm.proofs.cutting.off_grid.Goals as goal

pub returns-then-bars-num-ne0 : goal.returns-then-bars-num-ne0
returns-then-bars-num-ne0 c = sym (ap grid_answer (bars_off c.args.num c.args.den c.args.bars (notes_of c.args.words.now) c.if-bars-num-ne0.true))

pub returns : goal.returns
returns c = c.note_off_grid.ensures ∙ sym (ap grid_answer (bars_on c.args.num c.args.den c.args.bars (notes_of c.args.words.now) c.if-bars-num-ne0.false))
