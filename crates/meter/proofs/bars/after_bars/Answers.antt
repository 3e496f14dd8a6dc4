-- The parts' contracts, one inside the other.
use mathlib.Core.Path.{sym, ap, ◌∙◌}
use native.Mathlib.Omega.{arith}
use lib.IntN.{ℤ}
use Rattle.numbers.proofs.Laws.{read_pos}
use Rattle.beats.specs.Sums.{add_beats, mul_beat, or_most}
use Rattle.meter.proofs.Walking.{bars_stopped}
use Rattle.meter.proofs.bars.after_bars.Goals as goal

pub returns : goal.returns
returns c =
    c.or_most-2.ensures
    ∙ ap or_most (c.add.ensures
    ∙ ap (add_beats c.args.at) (c.or_most.ensures
    ∙ ap or_most (c.mul.ensures ∙ ap (λ (z : ℤ). mul_beat c.args.len z 1) (read_pos c.args.n (omega arith)))))
    ∙ sym (bars_stopped c.args.at c.args.len c.args.n)
