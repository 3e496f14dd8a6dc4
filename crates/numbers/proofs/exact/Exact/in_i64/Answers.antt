-- Stopping the size at one word keeps the test against the largest magnitude.
use mathlib.Core.Path.{sym, ◌∙◌}
use mathlib.Core.Bool.{Bool, true, false}
use Prim.Native.Nat.{◌<◌, ◌^◌, ◌-◌}
use lib.Dec.{leb, lit<}
use Rattle.numbers.specs.Signs.{most_of}
use Rattle.numbers.specs.Exacts.{size_of, value_of}
use Rattle.numbers.proofs.Signs.{in_i64}
use Rattle.numbers.proofs.Exacts.{leb_min}
use Rattle.numbers.proofs.exact.Exact.in_i64.Goals as goal

below-stop : (b : Bool) → most_of b < 2 ^ 64 - 1
below-stop true = lit< tt
below-stop false = lit< tt

pub returns : goal.returns
unfolding value_of
returns c =
    (λ i. leb (c.or_most.ensures i) (c.most.ensures i))
    ∙ leb_min (size_of c.args.self.size) (2 ^ 64 - 1) (most_of c.args.self.neg) (below-stop c.args.self.neg)
    ∙ sym (in_i64 c.args.self.neg (size_of c.args.self.size))
