-- The operations are those of the definition.
use Rattle.std.proofs.Common.{pos, ap, ◌∙◌}
use lib.Ieee.{Float, binary32, div, of_int, to_bits}
use Rattle.spelling.proofs.points.over_ten.Goals as goal

pub returns : goal.returns
returns c =
    c.f32_word.ensures
    ∙ ap (λ (x : Float). to_bits binary32 (div binary32 x c.ten_to.result)) c.nearest_u32_to_f32.ensures
    ∙ ap (λ (y : Float). to_bits binary32 (div binary32 (of_int binary32 (pos c.args.n)) y)) c.ten_to.ensures
