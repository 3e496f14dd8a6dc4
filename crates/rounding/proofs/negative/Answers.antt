-- `rounding::negative` meets its contract: the sign is the highest place of the pattern.
use Rattle.std.proofs.Common.{ℕ, ◌-◌, ◌^◌, T, ltb, sym, ap, ◌∙◌, subst}
use lib.Ieee.{binary64}
use Rattle.rounding.proofs.Places.{sign_place_lem}
use Rattle.rounding.proofs.negative.Goals as goal

pub returns : goal.returns
returns c = ap (λ (word : ℕ). ltb (2 ^ 63 - 1) word) c.f64_word.ensures ∙ sign_place_lem binary64 c.args.x (subst T (sym c.well_formed.0.1) tt)
