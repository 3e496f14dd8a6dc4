-- The loop's invariant: a pass has come to a point, and the records of this point and the later ones are left.
use Rattle.std.proofs.Common.{length, drop}
use Rattle.problems.specs.Problems.{tempo_problems}
use Rattle.problems.specs.Passes.{tempo_from}
use Rattle.problems.specs.Records.{listed_in}
use Rattle.problems.proofs.Adding.{UnderWay}
use Rattle.problems.proofs.changes.pass.Given as goal

abbrev pub invariant-loop-i : goal.invariant-loop-i
invariant-loop-i l = UnderWay l.initial.records l.records (tempo_from (length l.map.nums.now) l.i l.before (drop l.i (listed_in l.map))) (tempo_problems (listed_in l.map))
