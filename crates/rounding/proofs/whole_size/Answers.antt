-- `rounding::whole_size` meets its contract: each way out is one range of the exponent's field, and a law of `Rounding` says what the size is there.
use Rattle.std.proofs.Common.{true, false, T, sym, ap, ◌∙◌, subst, lt_of_le_of_lt, lit<}
use lib.Ieee.{Float}
use Rattle.rounding.proofs.Nan.{is_nan_lem, no_nan, differs}
use Rattle.rounding.proofs.Rounding.{size, size_nan, under_half, too_large, at_most_one, half_room, cut_down, cut_up}
use Rattle.rounding.proofs.whole_size.Goals as goal

pub returns-then-is_nan : goal.returns-then-is_nan
returns-then-is_nan c = sym (ap (λ (y : Float). size c.args.nearest y) (is_nan_lem c.args.x (differs c.args.x true (sym c.is_nan.ensures.value ∙ c.if-is_nan.true))) ∙ size_nan c.args.nearest)

pub float_to_bits-bits : goal.float_to_bits-bits
float_to_bits-bits c = no_nan c.args.x (differs c.args.x false (sym c.is_nan.ensures.value ∙ c.if-is_nan.false))

pub returns-then-exponent-lt1022 : goal.returns-then-exponent-lt1022
returns-then-exponent-lt1022 c = under_half c.args.nearest c.args.x (subst T (sym c.well_formed.0.1) tt) (no_nan c.args.x (differs c.args.x false (sym c.is_nan.ensures.value ∙ c.if-is_nan.false))) c.if-exponent-lt1022.true

pub returns-then-exponent-gt1086 : goal.returns-then-exponent-gt1086
returns-then-exponent-gt1086 c =
    too_large c.args.nearest c.args.x (subst T (sym c.well_formed.0.1) tt) (no_nan c.args.x (differs c.args.x false (sym c.is_nan.ensures.value ∙ c.if-is_nan.false))) c.if-exponent-gt1086.true

pub overflow_shl-result : goal.overflow_shl-result
overflow_shl-result c = lt_of_le_of_lt (at_most_one c.args.nearest) (lit< tt)

pub overflow_add-result : goal.overflow_add-result
overflow_add-result c =
    record { fits = half_room c.args.nearest c.args.x (subst T (sym c.well_formed.0.1) tt) (no_nan c.args.x (differs c.args.x false (sym c.is_nan.ensures.value ∙ c.if-is_nan.false))) }

pub overflow_shr-result-then-exponent-le1075 : goal.overflow_shr-result-then-exponent-le1075
overflow_shr-result-then-exponent-le1075 c = lt_of_le_of_lt (at_most_one c.args.nearest) (lit< tt)

pub returns-then-exponent-le1075 : goal.returns-then-exponent-le1075
returns-then-exponent-le1075 c =
    cut_down c.args.nearest c.args.x (subst T (sym c.well_formed.0.1) tt) (no_nan c.args.x (differs c.args.x false (sym c.is_nan.ensures.value ∙ c.if-is_nan.false))) c.if-exponent-lt1022.false c.if-exponent-le1075.true

pub returns-else-exponent-le1075 : goal.returns-else-exponent-le1075
returns-else-exponent-le1075 c =
    cut_up c.args.nearest c.args.x (subst T (sym c.well_formed.0.1) tt) (no_nan c.args.x (differs c.args.x false (sym c.is_nan.ensures.value ∙ c.if-is_nan.false))) c.if-exponent-le1075.false c.if-exponent-gt1086.false
