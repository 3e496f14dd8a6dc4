-- The composition of the two steps.
use mathlib.Core.Path.{ap}
use lib.Ieee.{Float, binary64, add}
use Rattle.tempo.proofs.walks.later.Goals as goal

pub returns : goal.returns
returns c = ap (λ (x : Float). add binary64 c.args.secs x) c.seconds_at.ensures
