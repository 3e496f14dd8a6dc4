-- A minus and digits, or digits.
use Rattle.std.proofs.Common.{true, false, ap, ◌∙◌}
use Rattle.spelling.specs.Words.{some_digits, sign_by}
use Rattle.spelling.proofs.Ratios.{minus_first, plus_first, minus, plus}
use Rattle.spelling.proofs.fractions.numerator.Goals as goal

pub returns-in-Some : goal.returns-in-Some
returns-in-Some c =
    let arm = c.in-Some.ensures.cases in
    c.with_sign.ensures ∙ ap (sign_by true) (c.some.ensures ∙ ap (some_digits 9223372036854775808) arm.1) ∙ minus c.args.word.now (minus_first c.args.word.now arm.0)

pub returns-in-None : goal.returns-in-None
returns-in-None c =
    c.with_sign-in-None.ensures ∙ ap (sign_by false) c.some-in-None.ensures ∙ plus c.args.word.now (plus_first c.args.word.now c.in-None.ensures.cases)
