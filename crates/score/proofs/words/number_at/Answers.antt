-- The two words are those of the definition.
use mathlib.Core.Path.{◌∙◌}
use borrow.Author.Rules.{rules}
use mir.Syntax.{w64}
use mir.ValLaws.{to_z-of_z}
use Rattle.score.proofs.Places.{number_is}
use Rattle.score.proofs.words.number_at.Goals as goal

pub returns : goal.returns
returns c =
    to_z-of_z w64 c.as_signed.result (search rules)
    ∙ c.as_signed.ensures
    ∙ number_is _ _ _ _ c.word_at-low.ensures c.word_at-high.ensures
