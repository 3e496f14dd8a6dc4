-- `rounding::clamp_f64` meets its contract: its tests are the definition's.
use Rattle.rounding.proofs.Picks.{clamp_low, clamp_high, clamp_else}
use Rattle.rounding.proofs.clamp_f64.Goals as goal

pub returns-then-low-x : goal.returns-then-low-x
returns-then-low-x c = clamp_low _ _ _ c.if-low-x.true

pub returns-then-high-x : goal.returns-then-high-x
returns-then-high-x c = clamp_high _ _ _ c.if-low-x.false c.if-high-x.true

pub returns-else-high-x : goal.returns-else-high-x
returns-else-high-x c = clamp_else _ _ _ c.if-low-x.false c.if-high-x.false
