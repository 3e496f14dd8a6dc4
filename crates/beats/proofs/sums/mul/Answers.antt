-- The numerators' product is known exactly, and the denominators' too.
use Rattle.std.proofs.Common.{◌≡◌, ◌*ℤ◌, ◌∙◌, w64, SFits, rules}
use mir.ValLaws.{to_z-of_z}
use Rattle.numbers.specs.Exacts.{value_of}
use Rattle.numbers.proofs.Laws.{valued}
use Rattle.beats.specs.Sums.{fitted}
use Rattle.beats.proofs.sums.mul.Goals as goal

pub returns : goal.returns
returns c =
    let fits : SFits w64 c.args.a.num = search rules in
    let x = to_z-of_z w64 c.args.a.num fits in
    let y = to_z-of_z w64 c.args.num c.ranges.num in
    let z : value_of c.product.result ≡ c.args.a.num *ℤ c.args.num = valued _ _ c.product.ensures ∙ (λ i. x i *ℤ y i) in
    c.checked.ensures ∙ (λ i. fitted (z i) (c.common.ensures i))
