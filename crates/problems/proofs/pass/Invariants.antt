-- The loop's invariant: a pass has come to a point, and the records of this point and the later ones are left.
use Rattle.std.proofs.Common.{length, drop}
use Rattle.problems.specs.Problems.{meter_problems}
use Rattle.problems.specs.Passes.{meter_from}
use Rattle.problems.proofs.Adding.{UnderWay}
use Rattle.problems.proofs.pass.Given as goal

abbrev pub invariant-loop-index : goal.invariant-loop-index
invariant-loop-index l = UnderWay l.initial.records l.records (meter_from (length l.points) l.index l.low (drop l.index l.points)) (meter_problems l.points)
