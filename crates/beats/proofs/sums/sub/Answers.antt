-- The numerator of the difference is known exactly, and the denominators' product too.
use Rattle.std.proofs.Common.{◌-ℤ◌, ◌∙◌, w64, SFits, rules}
use mir.ValLaws.{to_z-of_z}
use Rattle.beats.specs.Sums.{fitted}
use Rattle.beats.proofs.Fitted.{crossed}
use Rattle.beats.proofs.sums.sub.Goals as goal

pub returns : goal.returns
returns c =
    let fits : SFits w64 c.args.a.num = search rules in
    let x = to_z-of_z w64 c.args.a.num fits in
    let fits : SFits w64 c.args.b.num = search rules in
    let y = to_z-of_z w64 c.args.b.num fits in
    let z = crossed ◌-ℤ◌ c.difference_of_products.result _ _ c.args.a.num c.args.b.num c.args.b.den c.args.a.den x y c.difference_of_products.ensures in
    c.checked.ensures ∙ (λ i. fitted (z i) (c.common.ensures i))
