-- The words read are those of the definition.
use borrow.Author.Rules.{rules}
use mir.Syntax.{w64}
use mir.ValLaws.{to_z-of_z}
use Rattle.score.specs.Format.{beat_at}
use Rattle.score.proofs.file.beat_of.Goals as goal

pub returns : goal.returns
unfolding beat_at
returns c = rw (to_z-of_z w64 c.number_at-num.result (search rules), c.number_at-num.ensures, c.word_at-den.ensures)
