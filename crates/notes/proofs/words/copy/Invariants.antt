-- The loop has copied the words before i, and what is left to copy are the others.
use Rattle.std.proofs.Common.{drop}
use Rattle.numbers.proofs.Laws.{Writing}
use Rattle.notes.proofs.words.copy.Given as goal

abbrev pub invariant-loop-i : goal.invariant-loop-i
invariant-loop-i l = Writing l.initial.out l.out l.i (drop l.i l.words) l.words
