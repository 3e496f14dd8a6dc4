-- The loop keeps that the points that are left are sound from the last bar on exactly where the whole map is.
use Rattle.std.proofs.Common.{sym, ◌∙◌}
use Rattle.fits.proofs.Sounding.{sound_end, sound_not, sound_again}
use Rattle.fits.proofs.sound.points.Goals as goal

pub returns-then-not-point : goal.returns-then-not-point
returns-then-not-point c =
    sound_not _ c.loop-next.low c.in-Some.next _ c.in-Some.ensures.steps (sym c.point.ensures ∙ c.if-not-point.true) ∙ c.loop-next.invariant

pub loop-next-preserved : goal.loop-next-preserved
loop-next-preserved c =
    sound_again _ c.loop-next.low c.in-Some.next _ c.in-Some.ensures.steps (sym c.point.ensures ∙ c.if-not-point.false) ∙ c.loop-next.invariant

pub returns : goal.returns
returns c = sound_end _ c.loop-next.low c.in-None.ensures.steps.0 ∙ c.loop-next.invariant
