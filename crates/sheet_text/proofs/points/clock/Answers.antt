-- A transport made of the header's values.
use mathlib.Core.Path.{ap, ◌∙◌}
use lib.Ieee.{Float}
use Rattle.transport.specs.Transports.{made}
use Rattle.sheet_text.proofs.points.clock.Goals as goal

pub returns : goal.returns
returns c =
    c.fresh.ensures ∙ ap (λ (x : Float). made c.args.score.rate x c.args.score.beats 18446744073709551615 c.args.score.pickup) c.f32_of-bpm.ensures
