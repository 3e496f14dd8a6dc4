-- By whether there is a pickup.
use mathlib.Core.Path.{◌∙◌}
use borrow.Author.Rules.{rules}
use mir.Syntax.{w64}
use mir.ValLaws.{to_z-of_z}
use Rattle.score.proofs.Places.{none_is, some_is}
use Rattle.score.proofs.file.pickup_of.Goals as goal

pub returns-then-den-eq0 : goal.returns-then-den-eq0
returns-then-den-eq0 c = none_is _ _ c.word_at-den.ensures c.if-den-eq0.true

pub returns : goal.returns
returns c =
    some_is _ _ c.word_at-den.ensures c.if-den-eq0.false _
    (to_z-of_z w64 c.number_at-num.result (search rules) ∙ c.number_at-num.ensures)
