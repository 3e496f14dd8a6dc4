-- `rounding::max_f64` meets its contract: of two floats the one that stands later is the larger.
use Rattle.std.proofs.Common.{T, sym, subst, arith}
use lib.Ieee.{binary64, fits}
use Rattle.rounding.proofs.Places.{max_first, max_second}
use Rattle.rounding.proofs.max_f64.Goals as goal
use Rattle.rounding.proofs.max_f64.Reads as reads
use Rattle.rounding.proofs.max_f64.Tie as tie
use Rattle.rounding.proofs.max_f64.Lts as lts

-- what owning an `f64` tells: the format holds it
held_x : (c : lts.Start tie.the-claims reads.Pre reads.Post) → T (fits binary64 c.args.x)
held_x c = subst T (sym c.well_formed.0.1) tt

held-y : (c : lts.Start tie.the-claims reads.Pre reads.Post) → T (fits binary64 c.args.y)
held-y c = subst T (sym c.well_formed.1.0.1) tt

pub returns-then-place : goal.returns-then-place
returns-then-place c =
    max_second binary64 c.args.x c.args.y (held_x c.before.before.before) (held-y c.before.before.before) (omega arith)

pub returns-else-place : goal.returns-else-place
returns-else-place c =
    max_first binary64 c.args.x c.args.y (held_x c.before.before.before) (held-y c.before.before.before) (omega arith)
