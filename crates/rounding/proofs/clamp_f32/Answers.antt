-- `rounding::clamp_f32` meets its contract: its tests are the definition's.
use Rattle.rounding.proofs.Picks.{clamp_low, clamp_high, clamp_else}
use Rattle.rounding.proofs.clamp_f32.Goals as goal

pub returns-then-x-low : goal.returns-then-x-low
returns-then-x-low c = clamp_low _ _ _ c.if-x-low.true

pub returns-then-x-high : goal.returns-then-x-high
returns-then-x-high c = clamp_high _ _ _ c.if-x-low.false c.if-x-high.true

pub returns-else-x-high : goal.returns-else-x-high
returns-else-x-high c = clamp_else _ _ _ c.if-x-low.false c.if-x-high.false
