-- `rounding::floor` meets its contract: each way out is one law of `Flooring`, of the whole part of the size and of the tests made on the way there.
use Rattle.std.proofs.Common.{ℕ, ◌+◌, true, false, T, pos, sym, ap, ◌∙◌, subst}
use lib.Ieee.{Float, binary64, neg, to_bits, of_int}
use Rattle.rounding.proofs.Nan.{is_nan_lem, differs}
use Rattle.rounding.proofs.Flooring.{floor_nan, floor_large, floor_up, floor_at, floor_after}
use Rattle.rounding.proofs.floor.Goals as goal

pub returns-then-is_nan : goal.returns-then-is_nan
returns-then-is_nan c = floor_nan c.args.x (is_nan_lem c.args.x (differs c.args.x true (sym c.is_nan.ensures.value ∙ c.if-is_nan.true)))

pub returns-then-n-gt9007199254740991 : goal.returns-then-n-gt9007199254740991
returns-then-n-gt9007199254740991 c =
    floor_large c.args.x (subst T (sym c.well_formed.0.1) tt) (rw c.whole_size-n.ensures at c.if-n-gt9007199254740991.true)

pub returns-then-f64_word : goal.returns-then-f64_word
returns-then-f64_word c =
    floor_at c.args.x (subst T (sym c.well_formed.0.1) tt) (rw c.whole_size-n.ensures at c.if-n-gt9007199254740991.false) (sym c.negative.ensures ∙ c.if-negative.true) (sym c.f64_word.ensures ∙ c.if-f64_word.true ∙ (c.f64_word-then-negative.ensures ∙ ap (λ (y : Float). to_bits binary64 (neg y)) (c.nearest_u64_to_f64-whole.ensures ∙ ap (λ (n : ℕ). of_int binary64 (pos n)) c.whole_size-n.ensures)))

pub returns-else-f64_word : goal.returns-else-f64_word
returns-else-f64_word c =
    ap neg (c.nearest_u64_to_f64.ensures ∙ ap (λ (n : ℕ). of_int binary64 (pos (n + 1))) c.whole_size-n.ensures)
    ∙ floor_after c.args.x (subst T (sym c.well_formed.0.1) tt) (differs c.args.x false (sym c.is_nan.ensures.value ∙ c.if-is_nan.false)) (rw c.whole_size-n.ensures at c.if-n-gt9007199254740991.false) (sym c.negative.ensures ∙ c.if-negative.true) (λ h. c.if-f64_word.false (c.f64_word.ensures ∙ h ∙ sym ((c.f64_word-then-negative.ensures ∙ ap (λ (y : Float). to_bits binary64 (neg y)) (c.nearest_u64_to_f64-whole.ensures ∙ ap (λ (n : ℕ). of_int binary64 (pos n)) c.whole_size-n.ensures)))))

pub returns-else-negative : goal.returns-else-negative
returns-else-negative c =
    (c.nearest_u64_to_f64-whole.ensures ∙ ap (λ (n : ℕ). of_int binary64 (pos n)) c.whole_size-n.ensures) ∙ floor_up c.args.x (differs c.args.x false (sym c.is_nan.ensures.value ∙ c.if-is_nan.false)) (rw c.whole_size-n.ensures at c.if-n-gt9007199254740991.false) (sym c.negative.ensures ∙ c.if-negative.false)
