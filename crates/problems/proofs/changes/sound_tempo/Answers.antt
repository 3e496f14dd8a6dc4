-- The code's zero and infinity are the definition's (`Tempos`).
use Rattle.std.proofs.Common.{ap, ◌∙◌}
use Rattle.problems.specs.Problems.{sound_tempo}
use Rattle.problems.proofs.Tempos.{above_zero, not_above_lem}
use Rattle.problems.proofs.changes.sound_tempo.Goals as goal

pub returns-then-tempo : goal.returns-then-tempo
returns-then-tempo c = above_zero _ c.if-tempo.true ∙ ap sound_tempo c.f32_of-tempo.ensures

pub returns-else-tempo : goal.returns-else-tempo
returns-else-tempo c = not_above_lem _ c.if-tempo.false ∙ ap sound_tempo c.f32_of-tempo.ensures
