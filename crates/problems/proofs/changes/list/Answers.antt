-- The first pass tells the count, and the second leaves the words.
use Rattle.std.proofs.Common.{false}
use Rattle.numbers.proofs.Laws.{never}
use Rattle.problems.specs.Problems.{tempo_problems}
use Rattle.problems.specs.Records.{listed_in}
use Rattle.problems.proofs.Calls.{ready, none_fit, none_written, all_written, few}
use Rattle.problems.proofs.changes.list.Goals as goal

pub pass-count-requires-clause-ready : goal.pass-count-requires-clause-ready
pass-count-requires-clause-ready c = ready false c.args.out.now (tempo_problems (listed_in c.args.map.now)) (few _ _ _ c.requires) never

pub returns-then-count-out : goal.returns-then-count-out
returns-then-count-out c = let no = none_fit c.pass-count.ensures c.if-count-out.true in record { answer = no.0; words = no.1 }

pub returns-then-count-eq0 : goal.returns-then-count-eq0
returns-then-count-eq0 c = let no = none_written c.pass-count.ensures c.if-count-eq0.true in record { answer = no.0; words = no.1 }

pub returns : goal.returns
returns c = let all = all_written c.pass-count.ensures c.if-count-out.false c.pass.ensures in record { answer = all.0; words = all.1 }
