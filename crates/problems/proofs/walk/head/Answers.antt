-- At the first point the two records of the map are noted one behind the other, and elsewhere nothing is.
use Rattle.problems.specs.Problems.{many_meters, later_bar}
use Rattle.problems.proofs.Passing.{ready_first, passed_none}
use Rattle.problems.proofs.Adding.{ready_more, adds_more, same_own}
use Rattle.problems.proofs.Points.{head_first, head_later}
use Rattle.problems.proofs.walk.head.Goals as goal

pub returns-then-index-ne0 : goal.returns-then-index-ne0
returns-then-index-ne0 c = rw (head_later c.args.n c.args.index c.args.bar c.if-index-ne0.true) (record { passed = passed_none; same = same_own _ })

pub note-requires : goal.note-requires
note-requires c = ready_first (many_meters c.args.n) (later_bar c.args.bar) (rw (head_first c.args.n c.args.index c.args.bar c.if-index-ne0.false) at c.requires)

pub note-requires-2 : goal.note-requires-2
note-requires-2 c = ready_more (many_meters c.args.n) (later_bar c.args.bar) (rw (head_first c.args.n c.args.index c.args.bar c.if-index-ne0.false) at c.requires) c.note.ensures

pub returns : goal.returns
returns c = rw (head_first c.args.n c.args.index c.args.bar c.if-index-ne0.false) (adds_more (many_meters c.args.n) (later_bar c.args.bar) c.note.ensures c.note-2.ensures)
