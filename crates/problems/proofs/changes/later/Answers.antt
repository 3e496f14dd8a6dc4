-- The record of the tempo is noted, and then the one of the order.
use Rattle.problems.specs.Problems.{tempo_bits, not_above}
use Rattle.problems.specs.Passes.{listed_at, tempo_later}
use Rattle.problems.proofs.Passing.{ready_first}
use Rattle.problems.proofs.Adding.{ready_more, adds_more}
use Rattle.problems.proofs.changes.later.Goals as goal

pub own-requires : goal.own-requires
unfolding tempo_later
own-requires c = ready_first (tempo_bits c.args.index (listed_at c.args.at c.args.bits)) (not_above c.args.index c.args.before c.args.at) c.requires

pub note-requires : goal.note-requires
unfolding tempo_later
note-requires c =
    rw c.below.ensures
    (ready_more (tempo_bits c.args.index (listed_at c.args.at c.args.bits)) (not_above c.args.index c.args.before c.args.at) c.requires c.own.ensures)

pub returns : goal.returns
unfolding tempo_later
returns c =
    adds_more (tempo_bits c.args.index (listed_at c.args.at c.args.bits)) (not_above c.args.index c.args.before c.args.at) c.own.ensures (rw c.below.ensures at c.note.ensures)
