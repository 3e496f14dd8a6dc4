-- The loop keeps what is carried, so that each line is that of its bar asked by itself.
use Rattle.std.proofs.Common.{length}
use Rattle.filler.proofs.Filling.{Filled}
use Rattle.filler.proofs.bar_lines.fill.Given as goal

abbrev pub invariant-loop-k : goal.invariant-loop-k
invariant-loop-k l =
    Filled l.t l.words l.map.nums.now l.map.dens.now l.map.tempos.now (length l.initial.out) l.out l.segment l.ahead l.behind l.k
