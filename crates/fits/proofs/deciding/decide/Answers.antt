-- The three parts of the definition, in its order.
use mathlib.Core.Path.{sym, ◌∙◌}
use Rattle.fits.proofs.Parts.{unsound_map, backward, by_walk}
use Rattle.fits.proofs.deciding.decide.Goals as goal

pub returns-then-not-map : goal.returns-then-not-map
returns-then-not-map c = unsound_map _ _ _ (sym c.map.ensures ∙ c.if-not-map.true)

pub returns-then-not-forward : goal.returns-then-not-forward
returns-then-not-forward c =
    backward _ _ _ (sym c.map.ensures ∙ c.if-not-map.false) (sym c.forward.ensures ∙ c.if-not-forward.true)

pub returns : goal.returns
returns c =
    by_walk _ _ _ (sym c.map.ensures ∙ c.if-not-map.false) _ (sym c.forward.ensures ∙ c.if-not-forward.false) c.passes.ensures
