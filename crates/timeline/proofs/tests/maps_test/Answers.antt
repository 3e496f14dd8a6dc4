-- Of a sound transport the test's finding is the worse of the two maps', and the tempo map's lists are parallel where it passes.
use Rattle.std.proofs.Common.{sym, ◌∙◌}
use Rattle.tempo.proofs.Laws.{finding}
use Rattle.timeline.specs.Tests.{worse}
use Rattle.timeline.proofs.Testing.{both_sound, parallel}
use Rattle.timeline.proofs.tests.maps_test.Goals as goal

pub invariant_of-result : goal.invariant_of-result
invariant_of-result c =
    let e = c.worse.ensures ∙ (λ i. worse (c.words_test.ensures i) (finding _ _ _ c.test.result c.test.ensures i)) in
    record { parallel = parallel _ _ _ (both_sound _ _ (sym e ∙ c.in_ok-worse.was)).1 }
