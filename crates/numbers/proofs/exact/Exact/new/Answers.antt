-- By the size: 0 has no sign, and any other size keeps the one that was asked for.
use mathlib.Core.Path.{sym, ◌∙◌}
use borrow.Author.Tests.{eqb-true, eqb-false}
use Rattle.numbers.specs.Exacts.{size_of}
use Rattle.numbers.proofs.Exacts.{made, made_zero}
use borrow.Author.Rules.{rules}
use Rattle.numbers.proofs.exact.Exact.new.Goals as goal

pub returns-then-is_zero : goal.returns-then-is_zero
returns-then-is_zero c =
    made_zero c.args.neg c.args.size (search rules) (eqb-true (size_of c.args.size) 0 (sym c.is_zero.ensures ∙ c.if-is_zero.true))

pub returns-else-is_zero : goal.returns-else-is_zero
returns-else-is_zero c =
    made c.args.neg c.args.size (search rules) (eqb-false (size_of c.args.size) 0 (sym c.is_zero.ensures ∙ c.if-is_zero.false))
