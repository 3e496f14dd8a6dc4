-- Of a sound transport the test's finding is the worst of the lines' and the two maps', and the tempo map's lists are parallel where it passes.
use Rattle.std.proofs.Common.{◌≡◌, rules, ap, sym, ◌∙◌, Bool, cond, Result, Ok, Err}
use Rattle.numbers.specs.declared.refusal.Refusal.{Refusal}
use Rattle.numbers.specs.declared.refusal.Refusal.TheVariants.{Unsound}
use Rattle.tempo.proofs.Laws.{finding}
use Rattle.transport.specs.declared.Transport.{Transport}
use Rattle.timeline.specs.Tests.{worse, test_of, maps_test}
use Rattle.timeline.proofs.Laws.{passes}
use Rattle.filler.proofs.Testing.{test_parallel}
use Rattle.filler.proofs.test.Goals as goal

-- behind the transport's own test, what is found of the lists
behind : (t : Transport) (found : Result Unit Refusal) {own : Result Unit Refusal} → own ≡ test_of t (Ok tt) → own ≡ Ok tt → found ≡ test_of t found
unfolding test_of
behind t found e p = sym (ap (λ (q : Bool). cond q found (Err Unsound)) (passes t (Ok tt) (sym p ∙ e)).transport)

pub returns-in_err-worse-clause-test : goal.returns-in_err-worse-clause-test
unfolding maps_test
returns-in_err-worse-clause-test c =
    let maps = c.worse-maps.ensures ∙ (λ i. worse (c.words_test.ensures i) (finding _ _ _ c.test.result c.test.ensures i)) in
    let e = c.worse.ensures ∙ (λ i. worse (c.lines_test.ensures i) (maps i)) ∙ behind c.args.t _ c.found.ensures c.in_ok-found.was in
    search (rules, e)

pub invariant_of-result : goal.invariant_of-result
unfolding maps_test
invariant_of-result c =
    let maps = c.worse-maps.ensures ∙ (λ i. worse (c.words_test.ensures i) (finding _ _ _ c.test.result c.test.ensures i)) in
    let e = c.worse.ensures ∙ (λ i. worse (c.lines_test.ensures i) (maps i)) ∙ behind c.args.t _ c.found.ensures c.in_ok-found.was in
    record { parallel = test_parallel _ c.args.words.now _ _ _ c.args.n e c.in_ok-worse.was }

pub returns-clause-test : goal.returns-clause-test
unfolding maps_test
returns-clause-test c =
    let maps = c.worse-maps.ensures ∙ (λ i. worse (c.words_test.ensures i) (finding _ _ _ c.test.result c.test.ensures i)) in
    let e = c.worse.ensures ∙ (λ i. worse (c.lines_test.ensures i) (maps i)) ∙ behind c.args.t _ c.found.ensures c.in_ok-found.was in
    sym c.in_ok-worse.was ∙ e
