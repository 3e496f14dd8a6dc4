-- The composition of the steps; the literal 1.0 is the definition's `float1`.
use mathlib.Core.Path.{ap, ◌∙◌}
use lib.Ieee.{Float, of_bits}
use Rattle.rounding.specs.Floats.{maximum, float1}
use Rattle.tempo.proofs.walks.tempo_of.Goals as goal

pub returns : goal.returns
unfolding of_bits
returns c = c.max_f64.ensures ∙ ap (λ (x : Float). maximum x float1) (c.widened.ensures ∙ c.f32_of.ensures)
