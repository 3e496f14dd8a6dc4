-- Each product is known exactly, and the two are small enough for two words.
use mathlib.Core.Path.{◌≡◌, ap, ◌∙◌}
use mathlib.Core.Bool.{false}
use lib.IntN.{ℤ, pos, ◌+ℤ◌, ◌*ℤ◌}
use mir.Syntax.{w64}
use mir.ValLaws.{to_z-of_z}
use Rattle.numbers.specs.Signs.{with_sign}
use Rattle.numbers.specs.Exacts.{exact_of}
use Rattle.numbers.proofs.Exacts.{worked, product_small, sum_small}
use Rattle.numbers.proofs.exact.Exact.of_products.Goals as goal
use Rattle.numbers.proofs.exact.Exact.of_products.Reads as reads
use Rattle.numbers.proofs.exact.Exact.of_products.Tie as tie
use Rattle.numbers.proofs.exact.Exact.of_products.Lts as lts

one : (c : lts.After-times tie.the-claims reads.Pre reads.Post) → c.times.result ≡ exact_of (c.args.a *ℤ pos c.args.b)
one c = c.times.ensures ∙ ap (λ (z : ℤ). exact_of (z *ℤ pos c.args.b)) (to_z-of_z w64 c.args.a c.ranges.a)

two : (c : goal.After-times-2) → c.times-2.result ≡ exact_of (c.args.c *ℤ with_sign c.args.neg c.args.d)
two c =
    c.times-2.ensures ∙ ap (λ (z : ℤ). exact_of (z *ℤ with_sign c.args.neg c.args.d)) (to_z-of_z w64 c.args.c c.ranges.c)

pub plus-requires : goal.plus-requires
plus-requires c =
    sum_small
    (product_small c.args.a false c.args.b _ c.ranges.a.sfits c.ranges.b.fits (one c.before))
    (product_small c.args.c c.args.neg c.args.d _ c.ranges.c.sfits c.ranges.d.fits (two c))

pub returns : goal.returns
returns c =
    worked (λ (x y : ℤ). exact_of (x +ℤ y)) _ _ _ _ _ (one c.before.before) (two c.before) c.plus.ensures
