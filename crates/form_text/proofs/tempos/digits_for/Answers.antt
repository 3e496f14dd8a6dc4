-- What is rounded is the product of the definition.
use mathlib.Core.Path.{◌∙◌}
use Rattle.form_text.proofs.Digits.{digits_is}
use Rattle.form_text.proofs.tempos.digits_for.Goals as goal

pub returns : goal.returns
returns c =
    digits_is c.args.bits c.args.places c.round_to_u64.ensures (c.widened-tempo.ensures ∙ c.f32_of.ensures) c.ten-scale.ensures.0
