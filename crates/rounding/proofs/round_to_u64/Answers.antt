-- `rounding::round_to_u64` meets its contract: with a minus the cast is 0, and else it is that of the size.
use Rattle.std.proofs.Common.{sym, ◌∙◌}
use Rattle.rounding.specs.Floats.{round_away}
use Rattle.rounding.proofs.Signs.{minus_none, plain_own, round_sign}
use Rattle.rounding.proofs.round_to_u64.Goals as goal

pub returns-then-negative : goal.returns-then-negative
returns-then-negative c =
    minus_none 64 (round_away c.args.x) (round_sign c.args.x ∙ sym c.negative.ensures ∙ c.if-negative.true)

pub returns-else-negative : goal.returns-else-negative
returns-else-negative c =
    c.whole_size.ensures ∙ plain_own 64 (round_away c.args.x) (round_sign c.args.x ∙ sym c.negative.ensures ∙ c.if-negative.false)
