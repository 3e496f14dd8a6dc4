-- The composition of the steps; the literal 1.0 is the definition's `float1`.
use Rattle.std.proofs.Common.{ap, ◌∙◌}
use lib.Ieee.{Float, of_bits}
use Rattle.rounding.specs.Floats.{maximum, float1}
use Rattle.beats.specs.Frames.{seconds_at, frames_at, frame_of}
use Rattle.beats.proofs.frames.frame_of.Goals as goal

pub returns : goal.returns
unfolding frame_of of_bits
returns c =
    let tempo = c.max_f64-tempo.ensures ∙ ap (λ (x : Float). maximum x float1) c.widened.ensures in
    c.frames_at.ensures
    ∙ ap (λ (x : Float). frames_at x c.args.rate) (c.seconds_at.ensures ∙ (λ i. seconds_at (c.float_of.ensures i) (tempo i)))
