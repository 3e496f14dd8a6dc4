-- Stopping the size at one word first changes nothing.
use mathlib.Core.Path.{ap, ◌∙◌}
use Prim.Native.Nat.{ℕ}
use mir.Syntax.{w64}
use mir.ValLaws.{to_z-of_z}
use borrow.Author.Rules.{rules}
use Rattle.numbers.specs.Signs.{with_sign, to_i64}
use Rattle.numbers.specs.Exacts.{size_of, value_of}
use Rattle.numbers.proofs.Signs.{stopped_twice}
use Rattle.numbers.proofs.exact.Exact.to_i64.Goals as goal

pub returns : goal.returns
unfolding value_of
returns c =
    to_z-of_z w64 c.signed.result (search rules)
    ∙ c.signed.ensures
    ∙ ap (λ (n : ℕ). to_i64 (with_sign c.args.self.neg n)) c.or_most.ensures ∙ stopped_twice c.args.self.neg (size_of c.args.self.size)
