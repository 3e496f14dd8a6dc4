-- By the sign of the shift, and whether the step is left of 0.
use Rattle.std.proofs.Common.{◌≡◌, ℕ, Bool, true, false, pos, ◌+ℤ◌, sym, ap, ◌∙◌}
use Rattle.numbers.specs.Signs.{with_sign}
use Rattle.rhythm.specs.Values.{remainder}
use Rattle.rhythm.proofs.Sums.{turned_on, turned_back, turned_below}
use Rattle.rhythm.proofs.steps.turned.Goals as goal

by_sign : (step size total : ℕ) (b back : Bool) → back ≡ b → remainder (pos step +ℤ with_sign b size) total ≡ remainder (pos step +ℤ with_sign back size) total
by_sign step size total b back e = ap (λ (x : Bool). remainder (pos step +ℤ with_sign x size) total) (sym e)

pub returns-then-not-back : goal.returns-then-not-back
returns-then-not-back c =
    turned_on c.args.step c.args.total c.args.size ∙ by_sign c.args.step c.args.size c.args.total false c.args.back (c.if-not-back.true)

pub returns-then-size-s : goal.returns-then-size-s
returns-then-size-s c =
    turned_back c.args.step c.args.total c.args.size c.if-size-s.true ∙ by_sign c.args.step c.args.size c.args.total true c.args.back (c.if-not-back.false)

pub returns : goal.returns
returns c =
    turned_below c.args.step c.args.total c.args.size c.if-size-s.false ∙ by_sign c.args.step c.args.size c.args.total true c.args.back (c.if-not-back.false)
