-- `rounding::cut_to_u32` meets its contract: the narrower cast is the wider one, stopped at its own end.
use Rattle.std.proofs.Common.{ℕ, min, sym, ap, ◌∙◌, lit≤}
use Rattle.rounding.proofs.Signs.{narrow}
use Rattle.rounding.proofs.cut_to_u32.Goals as goal

pub returns : goal.returns
returns c =
    c.to_u32.ensures ∙ ap (λ (n : ℕ). min n 4294967295) c.cut_to_u64.ensures ∙ sym (narrow 32 64 (lit≤ tt) c.args.x)
