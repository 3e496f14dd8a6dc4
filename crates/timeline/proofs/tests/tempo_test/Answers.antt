-- The map's lists are parallel, since the map's own test passes.
use Rattle.std.proofs.Common.{sym, ◌∙◌}
use Rattle.tempo.proofs.Laws.{finding}
use Rattle.timeline.proofs.Testing.{parallel}
use Rattle.timeline.proofs.tests.tempo_test.Goals as goal

pub invariant_of-result : goal.invariant_of-result
invariant_of-result c = record { parallel = parallel _ _ _ (sym (finding _ _ _ c.test.result c.test.ensures) ∙ c.in_ok-test.was) }
