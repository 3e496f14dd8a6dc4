-- `rounding::place` meets its contract: without the sign's place the bits are those of the size.
use Rattle.std.proofs.Common.{true, false, ◌∙◌, ◌^◌, ◌<◌, T, sym, subst, arith}
use lib.Ieee.{binary64, to_bits}
use lib.Ieee.Bits.{to_bits-lt}
use Rattle.rounding.proofs.Nan.{is_nan_lem, no_nan, differs}
use Rattle.rounding.proofs.Places.{place_nan, place_minus, place_plus}
use Rattle.rounding.proofs.place.Goals as goal

pub returns-then-is_nan : goal.returns-then-is_nan
returns-then-is_nan c = place_nan binary64 c.args.x (is_nan_lem c.args.x (differs c.args.x true (sym c.is_nan.ensures.value ∙ c.if-is_nan.true)))

pub float_to_bits-bits : goal.float_to_bits-bits
float_to_bits-bits c = no_nan c.args.x (differs c.args.x false (sym c.is_nan.ensures.value ∙ c.if-is_nan.false))

pub overflow_sub-result-then-bits-gt9223372036854775807 : goal.overflow_sub-result-then-bits-gt9223372036854775807
overflow_sub-result-then-bits-gt9223372036854775807 c =
    let h : to_bits binary64 c.args.x < 2 ^ 64 = to_bits-lt binary64 c.args.x (subst T (sym c.well_formed.0.1) tt) in
    omega arith

pub returns-then-bits-gt9223372036854775807 : goal.returns-then-bits-gt9223372036854775807
returns-then-bits-gt9223372036854775807 c = place_minus binary64 c.args.x (subst T (sym c.well_formed.0.1) tt) (no_nan c.args.x (differs c.args.x false (sym c.is_nan.ensures.value ∙ c.if-is_nan.false))) c.if-bits-gt9223372036854775807.true

pub returns-else-bits-gt9223372036854775807 : goal.returns-else-bits-gt9223372036854775807
returns-else-bits-gt9223372036854775807 c = place_plus binary64 c.args.x (subst T (sym c.well_formed.0.1) tt) (no_nan c.args.x (differs c.args.x false (sym c.is_nan.ensures.value ∙ c.if-is_nan.false))) c.if-bits-gt9223372036854775807.false
