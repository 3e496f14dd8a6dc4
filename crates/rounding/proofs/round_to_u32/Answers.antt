-- `rounding::round_to_u32` meets its contract: the narrower cast is the wider one, stopped at its own end.
use Rattle.std.proofs.Common.{ℕ, min, sym, ap, ◌∙◌, lit≤}
use lib.Ieee.{Float, to_unsigned}
use Rattle.rounding.specs.Floats.{round_away}
use Rattle.rounding.proofs.Signs.{narrow}
use Rattle.rounding.proofs.round_to_u32.Goals as goal

pub returns : goal.returns
returns c =
    c.to_u32.ensures ∙ ap (λ (n : ℕ). min n 4294967295) (c.round_to_u64.ensures ∙ ap (λ (y : Float). to_unsigned 64 (round_away y)) c.widened.ensures)
    ∙ sym (narrow 32 64 (lit≤ tt) (round_away c.args.x))
