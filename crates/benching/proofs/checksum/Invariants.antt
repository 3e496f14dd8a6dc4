-- The sum so far is that of the turns so far.
use Rattle.benching.specs.Sums.{Summed}
use Rattle.benching.proofs.checksum.Given as goal

abbrev pub invariant-loop-i : goal.invariant-loop-i
invariant-loop-i g l = goal.F-IsAlwaysCallable g l.answer × Summed (goal.F-step g) l.initial.answer l.i l.sum l.answer
