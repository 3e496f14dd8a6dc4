-- The first byte that std's search finds is where the run ends.
use Rattle.std.proofs.Common.{drop, refl, rules, tests, eqb}
use Rattle.std.proofs.lemmas.Iterator.{YieldsList-from_slice}
use Rattle.std.proofs.lemmas.Iterator.Search.{position_from_yields_List}
use Rattle.splits.specs.Splits.{other}
use Rattle.splits.proofs.Places.{part_rest}
use Rattle.splits.proofs.Searches.{at_some, at_none}
use Rattle.splits.proofs.scan.until.Goals as goal

pub returns-in-Some : goal.returns-in-Some
returns-in-Some c =
    let found = position_from_yields_List (λ b. eqb b c.args.mark) _ _ _ c.position.ensures.ran (YieldsList-from_slice (drop c.args.from c.args.text.now) (cc (part_rest c.args.from c.args.text.now))) (λ x b q k. search (rules, tests)) in
    at_some (other c.args.mark) (λ b. eqb b c.args.mark) (λ b. refl) c.args.text.now c.args.from c.requires c.position.result found c.in-Some.n c.in-Some.is

pub returns-in-None : goal.returns-in-None
returns-in-None c =
    let found = position_from_yields_List (λ b. eqb b c.args.mark) _ _ _ c.position.ensures.ran (YieldsList-from_slice (drop c.args.from c.args.text.now) (cc (part_rest c.args.from c.args.text.now))) (λ x b q k. search (rules, tests)) in
    at_none (other c.args.mark) (λ b. eqb b c.args.mark) (λ b. refl) c.args.text.now c.args.from c.requires c.position.result found c.in-None.is
