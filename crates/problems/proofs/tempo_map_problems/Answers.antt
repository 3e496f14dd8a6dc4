-- The problems are those of a map that the test found walkable.
use Rattle.std.proofs.Common.{sym, ◌∙◌}
use Rattle.tempo.proofs.Laws.{finding, walkable}
use Rattle.problems.proofs.tempo_map_problems.Goals as goal

pub list-requires : goal.list-requires
list-requires c = walkable _ _ _ (sym (finding _ _ _ _ c.test.ensures) ∙ c.in_ok-test.was)
