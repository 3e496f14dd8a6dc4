-- The quotient, and one more where the remainder is a half or over.
use Rattle.std.proofs.Common.{ℕ, ◌*◌, min, ap, ◌∙◌, arith}
use Rattle.rhythm.specs.Values.{most_step}
use Rattle.rhythm.proofs.Sums.{from_half}
use Rattle.rhythm.proofs.making.nearest.Goals as goal

pub returns : goal.returns
returns c =
    c.to_u32-2.ensures ∙ ap (λ (q : ℕ). min q most_step) (from_half (c.args.k * c.args.steps) c.args.count (omega arith) c.if-left-c.false)
