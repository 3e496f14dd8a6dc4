-- The loop keeps the marks of the points passed.
use Rattle.std.proofs.Common.{length}
use Rattle.filler.proofs.Marking.{Marking}
use Rattle.filler.proofs.marks.mark.Given as goal

abbrev pub invariant-loop-point : goal.invariant-loop-point
invariant-loop-point l = Marking l.words (length l.initial.out) l.number l.point-iterator.words.now l.out
