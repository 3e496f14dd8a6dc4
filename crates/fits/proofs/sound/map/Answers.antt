-- The three tests of the definition, in its order.
use mathlib.Core.Path.{sym, ◌∙◌}
use Rattle.fits.proofs.Sounding.{map_many, map_late, map_rest}
use Rattle.fits.proofs.sound.map.Goals as goal

pub returns-then-words-gt256 : goal.returns-then-words-gt256
returns-then-words-gt256 c = map_many _ c.if-words-gt256.true

pub returns-then-not-first_zero : goal.returns-then-not-first_zero
returns-then-not-first_zero c = map_late _ c.if-words-gt256.false (sym c.first_zero.ensures ∙ c.if-not-first_zero.true)

pub returns : goal.returns
returns c =
    map_rest _ c.if-words-gt256.false _ (sym c.first_zero.ensures ∙ c.if-not-first_zero.false) c.points.ensures
