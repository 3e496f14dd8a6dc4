-- A record that was not found is none, and one that was found is put and counted.
use Rattle.problems.specs.Records.{number_of}
use Rattle.problems.proofs.Passing.{none, one, ready_one}
use Rattle.problems.proofs.Adding.{same_own}
use Rattle.problems.proofs.records.Records.note.Goals as goal

pub put-requires : goal.put-requires
put-requires c = (ready_one (number_of c.args.code) c.args.index c.args.value c.args.found c.if-found.true c.requires).1

pub returns-then-found : goal.returns-then-found
returns-then-found c = record {
  passed = rw c.put.ensures.count (one (number_of c.args.code) c.args.index c.args.value c.args.found c.if-found.true (rw c.from.ensures at c.put.ensures.words));
  same = record { lent = c.put.ensures.same.lent; writing = c.put.ensures.same.writing };
}

pub returns-else-found : goal.returns-else-found
returns-else-found c = record { passed = none (number_of c.args.code) c.args.index c.args.value c.args.found c.if-found.false; same = same_own _ }
