-- The number behind the slash, or 1.
use Rattle.std.proofs.Common.{◌∙◌}
use Rattle.spelling.proofs.Ratios.{over, whole}
use Rattle.spelling.proofs.fractions.denominator.Goals as goal

pub returns-then-slash-word : goal.returns-then-slash-word
returns-then-slash-word c = c.number.ensures ∙ over _ _ c.if-slash-word.true

pub returns-else-slash-word : goal.returns-else-slash-word
returns-else-slash-word c = whole _ _ c.if-slash-word.false
