-- No byte, or digits behind the number 0.
use Rattle.std.proofs.Common.{sym, ◌∙◌, eqb-true, eq-eqb}
use Rattle.spelling.proofs.Reading.{no_word, some_word}
use Rattle.spelling.proofs.digits.some.Goals as goal

pub returns-then-is_empty : goal.returns-then-is_empty
returns-then-is_empty c = no_word _ _ (eqb-true _ _ (sym c.is_empty.ensures ∙ c.if-is_empty.true))

pub returns : goal.returns
returns c =
    c.behind.ensures ∙ some_word _ _ (λ e. let f = sym c.if-is_empty.false ∙ c.is_empty.ensures ∙ eq-eqb _ _ e in cc)
