-- The loop has copied the lines before i, and what is left to copy are the others.
use Rattle.std.proofs.Common.{drop}
use Rattle.numbers.proofs.Laws.{Writing}
use Rattle.between.proofs.copy.Given as goal

abbrev pub invariant-loop-i : goal.invariant-loop-i
invariant-loop-i l = Writing l.initial.out l.out l.i (drop l.i l.part) l.part
