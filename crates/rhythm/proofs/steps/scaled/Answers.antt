-- The calls one after the other; 0.0 and 1.0 are their bits.
use Rattle.std.proofs.Common.{ap, ◌∙◌, to_bits}
use lib.Ieee.{binary32, mul}
use Rattle.rounding.specs.Floats.{clamp}
use Rattle.rounding.proofs.Laws.{zero_bits, one_bits}
use Rattle.rhythm.specs.Values.{scaled_gain}
use Rattle.rhythm.proofs.steps.scaled.Goals as goal

pub returns : goal.returns
unfolding scaled_gain
returns c =
    c.f32_word.ensures
    ∙ ap (to_bits binary32) (c.clamp_f32.ensures ∙ (λ i. clamp (mul binary32 (c.f32_of.ensures i) c.args.scale) (zero_bits i) (one_bits i)))
