-- By the two signs: sizes of one sign decide, exchanged below zero, and of two signs the one below zero is below.
use mathlib.Core.Path.{sym, ◌∙◌}
use mathlib.Core.Bool.{true, false, beq}
use lib.Signed.{lt_z}
use Rattle.numbers.specs.Exacts.{size_of, value_of}
use Rattle.numbers.proofs.Flags.{same_flag}
use Rattle.numbers.proofs.Exacts.{signs_known}
use Rattle.numbers.proofs.Orders.{both_below, signs_apart}
use Rattle.numbers.proofs.exact.Exact.below.Goals as goal

pub returns-then-an : goal.returns-then-an
returns-then-an c =
    let same = same_flag c.args.self.neg c.args.b.neg c.if-an-bn.true in
    c.below.ensures ∙ both_below (size_of c.args.self.size) (size_of c.args.b.size) ∙ sym (signs_known lt_z c.args.self c.args.b true true c.if-an.true (sym same ∙ c.if-an.true))

pub returns-else-an : goal.returns-else-an
returns-else-an c =
    let same = same_flag c.args.self.neg c.args.b.neg c.if-an-bn.true in
    c.below-else-an.ensures ∙ sym (signs_known lt_z c.args.self c.args.b false false c.if-an.false (sym same ∙ c.if-an.false))

pub returns-else-an-bn : goal.returns-else-an-bn
returns-else-an-bn c =
    c.requires.neg_value ∙ signs_apart (value_of c.args.self) (value_of c.args.b) ((λ i. beq (sym c.requires.neg_value i) (sym c.requires.neg_value_2 i)) ∙ c.if-an-bn.false)
