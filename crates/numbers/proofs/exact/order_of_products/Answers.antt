-- The two tests are of the exact products.
use mathlib.Core.Path.{◌≡◌, sym, ap, ◌∙◌}
use lib.IntN.{ℤ, pos, ◌*ℤ◌}
use lib.Signed.{lt_z}
use mir.Syntax.{w64}
use mir.ValLaws.{to_z-of_z}
use Rattle.numbers.specs.Exacts.{exact_of}
use Rattle.numbers.proofs.Exacts.{worked, sign_of}
use Rattle.numbers.proofs.Orders.{is_less_lem, is_greater, is_equal}
use Rattle.numbers.proofs.exact.order_of_products.Goals as goal
use Rattle.numbers.proofs.exact.order_of_products.Lts as lts
use Rattle.numbers.proofs.exact.order_of_products.Reads as reads
use Rattle.numbers.proofs.exact.order_of_products.Tie as tie

-- the two products
first : (c : lts.After-times tie.the-claims reads.Pre reads.Post tie.handed_clauses) → c.times-x.result ≡ exact_of (c.args.a *ℤ pos c.args.b)
first c = c.times-x.ensures ∙ ap (λ (z : ℤ). exact_of (z *ℤ pos c.args.b)) (to_z-of_z w64 c.args.a c.ranges.a)

second : (c : goal.After-times-y) → c.times-y.result ≡ exact_of (c.args.c *ℤ pos c.args.d)
second c = c.times-y.ensures ∙ ap (λ (z : ℤ). exact_of (z *ℤ pos c.args.d)) (to_z-of_z w64 c.args.c c.ranges.c)

pub below-less-requires : goal.below-less-requires
below-less-requires c = record { neg_value = sign_of _ _ (first c.before); neg_value_2 = sign_of _ _ (second c) }

pub below-more-requires : goal.below-more-requires
below-more-requires c = record { neg_value = sign_of _ _ (second c.before); neg_value_2 = sign_of _ _ (first c.before.before) }

-- the two tests
less : (c : lts.After-below2 tie.the-claims reads.Pre reads.Post tie.handed_clauses)
    → (c.below-less.result ≡ lt_z (c.args.a *ℤ pos c.args.b) (c.args.c *ℤ pos c.args.d))
less c = worked lt_z _ _ _ _ _ (first c.before.before.before) (second c.before.before) c.below-less.ensures

more : (c : lts.After-below2 tie.the-claims reads.Pre reads.Post tie.handed_clauses)
    → (c.below-more.result ≡ lt_z (c.args.c *ℤ pos c.args.d) (c.args.a *ℤ pos c.args.b))
more c = worked lt_z _ _ _ _ _ (second c.before.before) (first c.before.before.before) c.below-more.ensures

pub returns-then-less : goal.returns-then-less
returns-then-less c =
    is_less_lem (c.args.a *ℤ pos c.args.b) (c.args.c *ℤ pos c.args.d) (sym (less c.before) ∙ c.if-less.true)

pub returns-then-more : goal.returns-then-more
returns-then-more c =
    is_greater (c.args.a *ℤ pos c.args.b) (c.args.c *ℤ pos c.args.d) (sym (more c.before.before) ∙ c.if-more.true)

pub returns-else-more : goal.returns-else-more
returns-else-more c =
    is_equal (c.args.a *ℤ pos c.args.b) (c.args.c *ℤ pos c.args.d) (sym (less c.before.before) ∙ c.if-less.false) (sym (more c.before.before) ∙ c.if-more.false)
