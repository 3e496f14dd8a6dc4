-- The two parts of the turned sum share no bit.
use Rattle.std.proofs.Common.{ℕ, ◌+◌, ◌%◌, ◌^◌, ap, ◌∙◌}
use Rattle.benching.proofs.Words.{turned}
use Rattle.benching.proofs.mixed.Goals as goal

pub returns : goal.returns
returns c =
    ap (λ (x : ℕ). (x + c.args.answer) % 2 ^ 64) (c.rotate_left.ensures ∙ turned c.args.sum c.ranges.sum.fits)
