-- The state and the loop as words, as the question form and a clock in firmware's memory write them.
use Rattle.std.specs.Prelude.{cond, ℕ, eqb, Option, Some, None}
use Rattle.transport.specs.declared.PlayState.{PlayState}
use Rattle.transport.specs.declared.PlayState.TheVariants.{Stopped, Playing, Paused}
use Rattle.transport.specs.declared.LoopRange.{LoopRange}

-- 0 stopped, 1 playing, 2 paused
abbrev pub state_of : ℕ → PlayState
state_of word = cond (eqb word 0) Stopped (cond (eqb word 1) Playing Paused)

abbrev pub state_word : PlayState → ℕ
state_word Stopped = 0
state_word Playing = 1
state_word Paused = 2

-- 0 off, whatever the two frames are; 1 on
abbrev pub loop_of : ℕ → ℕ → ℕ → Option LoopRange
loop_of on start end = cond (eqb on 0) None (Some (record { start = start; end = end }))
