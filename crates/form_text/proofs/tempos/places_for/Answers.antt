-- The first of the five that reads back is that of the definition.
use Rattle.std.proofs.Common.{rules, ◌≡◌, true, false}
use borrow.Author.Tests.{tests}
use Rattle.std.proofs.lemmas.Iterator.{first_from_Range}
use Rattle.form_text.specs.TempoTexts.{reads_back}
use Rattle.form_text.proofs.Digits.{found}
use Rattle.form_text.proofs.tempos.places_for.Goals as goal

pub returns-clause-value : goal.returns-clause-value
returns-clause-value c =
    found c.args.bits c.find.result
    (first_from_Range _ _ _ c.find.result (λ k. reads_back c.args.bits k ≡ true) (λ k. reads_back c.args.bits k ≡ false) c.find.ensures.ran (λ x q k. search (rules, tests)) (λ x q k. search (rules, tests)))
