-- By the two signs: sizes of one sign add, and of two signs the smaller is taken from the larger.
use lib.IntN.{◌+ℤ◌}
use mathlib.Core.Path.{sym, ap, ◌∙◌}
use mathlib.Core.Bool.{true, false}
use Rattle.numbers.specs.Signs.{with_sign}
use Rattle.numbers.specs.Exacts.{size_of}
use Rattle.numbers.specs.Exacts.{exact_of}
use Rattle.numbers.proofs.Words.{size_wide}
use Rattle.numbers.proofs.Exacts.{neg+neg, neg+pos, pos+neg, signs_known}
use Rattle.numbers.proofs.exact.Exact.plus.Goals as goal

pub returns-then-bn : goal.returns-then-bn
returns-then-bn c =
    c.new.ensures
    ∙ ap exact_of
    (ap (with_sign true) (ap size_of c.plus.ensures ∙ size_wide _)
    ∙ sym (neg+neg (size_of c.args.self.size) (size_of c.args.b.size))
    ∙ sym (signs_known ◌+ℤ◌ c.args.self c.args.b true true c.if-an.true c.if-bn.true))

pub returns-else-bn : goal.returns-else-bn
returns-else-bn c =
    c.difference.ensures
    ∙ ap exact_of (sym (neg+pos (size_of c.args.self.size) (size_of c.args.b.size)) ∙ sym (signs_known ◌+ℤ◌ c.args.self c.args.b true false c.if-an.true c.if-bn.false))

pub returns-then-bn-2 : goal.returns-then-bn-2
returns-then-bn-2 c =
    c.difference-then-bn-2.ensures
    ∙ ap exact_of (sym (pos+neg (size_of c.args.self.size) (size_of c.args.b.size)) ∙ sym (signs_known ◌+ℤ◌ c.args.self c.args.b false true c.if-an.false c.if-bn-2.true))

pub returns-else-bn-2 : goal.returns-else-bn-2
returns-else-bn-2 c =
    c.new-else-bn-2.ensures
    ∙ ap exact_of
    (ap (with_sign false) (ap size_of c.plus-else-bn-2.ensures ∙ size_wide _)
    ∙ sym (signs_known ◌+ℤ◌ c.args.self c.args.b false false c.if-an.false c.if-bn-2.false))
