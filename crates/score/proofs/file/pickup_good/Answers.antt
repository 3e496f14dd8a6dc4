-- By whether there is a pickup, and by its words.
use mathlib.Core.Path.{◌∙◌}
use borrow.Author.Rules.{rules}
use mir.Syntax.{w64}
use mir.ValLaws.{to_z-of_z}
use Rattle.score.proofs.Places.{none_low, none_high, some_good}
use Rattle.score.proofs.file.pickup_good.Goals as goal

pub returns-then-low-ne0 : goal.returns-then-low-ne0
returns-then-low-ne0 c = none_low _ _ c.word_at-den.ensures c.if-den-eq0.true _ c.word_at-low.ensures c.if-low-ne0.true

pub returns-else-low-ne0 : goal.returns-else-low-ne0
returns-else-low-ne0 c =
    none_high _ _ c.word_at-den.ensures c.if-den-eq0.true _ _ c.word_at-low.ensures c.if-low-ne0.false c.word_at-high.ensures

pub returns-else-den-eq0 : goal.returns-else-den-eq0
returns-else-den-eq0 c =
    c.is_beat.ensures
    ∙ some_good _ _ c.word_at-den.ensures c.if-den-eq0.false _
    (to_z-of_z w64 c.number_at-num.result (search rules) ∙ c.number_at-num.ensures)
