-- By the first key that the word is.
use mathlib.Core.Path.{sym, ◌∙◌}
use Rattle.items.specs.Items.{key_item}
use Rattle.items.proofs.keys.keyed.Goals as goal

pub returns-then-same : goal.returns-then-same
unfolding key_item
returns-then-same c = rw (sym c.same.ensures ∙ c.if-same.true) c.rate.ensures

pub returns-then-same-2 : goal.returns-then-same-2
unfolding key_item
returns-then-same-2 c = rw (sym c.same.ensures ∙ c.if-same.false, sym c.same-2.ensures ∙ c.if-same-2.true) c.beats.ensures

pub returns-then-same-3 : goal.returns-then-same-3
unfolding key_item
returns-then-same-3 c =
    rw (sym c.same.ensures ∙ c.if-same.false, sym c.same-2.ensures ∙ c.if-same-2.false, sym c.same-3.ensures ∙ c.if-same-3.true) c.tempo.ensures

pub returns-then-same-4 : goal.returns-then-same-4
unfolding key_item
returns-then-same-4 c =
    rw (
      sym c.same.ensures ∙ c.if-same.false,
      sym c.same-2.ensures ∙ c.if-same-2.false,
      sym c.same-3.ensures ∙ c.if-same-3.false,
      sym c.same-4.ensures ∙ c.if-same-4.true,
    ) c.pickup.ensures

pub returns-then-same-5 : goal.returns-then-same-5
unfolding key_item
returns-then-same-5 c =
    rw (
      sym c.same.ensures ∙ c.if-same.false,
      sym c.same-2.ensures ∙ c.if-same-2.false,
      sym c.same-3.ensures ∙ c.if-same-3.false,
      sym c.same-4.ensures ∙ c.if-same-4.false,
      sym c.same-5.ensures ∙ c.if-same-5.true,
    ) c.meter.ensures

pub returns : goal.returns
unfolding key_item
returns c =
    rw (
      sym c.same.ensures ∙ c.if-same.false,
      sym c.same-2.ensures ∙ c.if-same-2.false,
      sym c.same-3.ensures ∙ c.if-same-3.false,
      sym c.same-4.ensures ∙ c.if-same-4.false,
      sym c.same-5.ensures ∙ c.if-same-5.false,
    )
