-- The record of the map, the one of its first beat and the one of its first tempo are noted one behind another.
use Rattle.std.proofs.Common.{◌++◌}
use Rattle.problems.specs.Problems.{tempo_bits, many_tempos, later_beat}
use Rattle.problems.specs.Passes.{listed_at, tempo_first}
use Rattle.problems.proofs.Passing.{ready_first}
use Rattle.problems.proofs.Adding.{ready_more, adds_more}
use Rattle.problems.proofs.changes.first.Goals as goal

pub note-requires : goal.note-requires
unfolding tempo_first
note-requires c =
    let x = many_tempos c.args.n in
    let y = later_beat c.args.at in
    let z = tempo_bits 0 (listed_at c.args.at c.args.bits) in
    ready_first x (y ++ z) c.requires

pub note-requires-2 : goal.note-requires-2
unfolding tempo_first
note-requires-2 c =
    let x = many_tempos c.args.n in
    let y = later_beat c.args.at in
    let z = tempo_bits 0 (listed_at c.args.at c.args.bits) in
    rw c.is_zero.ensures (ready_first y z (ready_more x (y ++ z) c.requires c.note.ensures))

pub own-requires : goal.own-requires
unfolding tempo_first
own-requires c =
    let x = many_tempos c.args.n in
    let y = later_beat c.args.at in
    let z = tempo_bits 0 (listed_at c.args.at c.args.bits) in
    ready_more y z (ready_more x (y ++ z) c.requires c.note.ensures) (rw c.is_zero.ensures at c.note-2.ensures)

pub returns : goal.returns
unfolding tempo_first
returns c =
    let x = many_tempos c.args.n in
    let y = later_beat c.args.at in
    let z = tempo_bits 0 (listed_at c.args.at c.args.bits) in
    adds_more x (y ++ z) c.note.ensures (adds_more y z (rw c.is_zero.ensures at c.note-2.ensures) c.own.ensures)
