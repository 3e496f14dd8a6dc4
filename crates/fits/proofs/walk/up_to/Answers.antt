-- The test is that of the definition.
use mathlib.Core.Path.{sym, ap, ◌∙◌}
use Prim.Native.Nat.{◌-◌}
use Rattle.beats.specs.declared.Beat.{Beat}
use Rattle.fits.specs.Decision.{segment}
use Rattle.fits.proofs.Walking.{reach_bars, reach_none}
use Rattle.fits.proofs.walk.up_to.Goals as goal

pub returns-then-bar-end : goal.returns-then-bar-end
returns-then-bar-end c =
    c.segment_end.ensures
    ∙ ap (λ (len : Beat). segment c.args.at len (c.args.end - c.args.bar)) c.len.ensures
    ∙ sym (reach_bars _ _ _ _ c.if-bar-end.true)

pub returns-else-bar-end : goal.returns-else-bar-end
returns-else-bar-end c = sym (reach_none _ _ _ _ c.if-bar-end.false)
