-- `rounding::round_to_i64` meets its contract: the cast at a sign is the size, rounded, with the sign of x, stopped at the ends of an i64.
use Rattle.std.proofs.Common.{ℕ, Bool, sym, ◌∙◌, ap₂, lit<, w64, rules}
use mir.ValLaws.{to_z-of_z}
use Rattle.rounding.specs.Floats.{round_away}
use Rattle.rounding.proofs.Signs.{stopped, at_i64, signed_by, round_sign}
use Rattle.rounding.proofs.round_to_i64.Goals as goal

pub returns : goal.returns
returns c =
    to_z-of_z w64 c.signed.result (search rules)
    ∙ c.signed.ensures
    ∙ at_i64 c.negative.result c.whole_size.result
    ∙ ap₂ (λ (s : Bool) (n : ℕ). stopped 63 s n) (c.negative.ensures ∙ sym (round_sign c.args.x)) c.whole_size.ensures
    ∙ sym (signed_by 63 64 (lit< tt) (round_away c.args.x))
