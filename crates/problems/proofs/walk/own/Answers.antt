-- The three records of a point are noted one behind another.
use Rattle.std.proofs.Common.{not, ltb, eqb, ◌++◌}
use Rattle.meter.specs.Fits.{good_den}
use Rattle.problems.specs.Problems.{problem_if, meter_point}
use Rattle.problems.proofs.Passing.{ready_first}
use Rattle.problems.proofs.Adding.{ready_more, adds_more}
use Rattle.problems.proofs.walk.own.Goals as goal

pub note-requires : goal.note-requires
unfolding meter_point
note-requires c =
    let x = problem_if (eqb c.args.numerator 0) 3 c.args.index 0 in
    let y = problem_if (not (good_den c.args.denominator)) 4 c.args.index c.args.denominator in
    let z = problem_if (ltb c.args.bar c.args.low) 5 c.args.index 0 in
    ready_first x (y ++ z) c.requires

pub note-requires-2 : goal.note-requires-2
unfolding meter_point
note-requires-2 c =
    let x = problem_if (eqb c.args.numerator 0) 3 c.args.index 0 in
    let y = problem_if (not (good_den c.args.denominator)) 4 c.args.index c.args.denominator in
    let z = problem_if (ltb c.args.bar c.args.low) 5 c.args.index 0 in
    rw c.good_denominator.ensures (ready_first y z (ready_more x (y ++ z) c.requires c.note.ensures))

pub note-requires-3 : goal.note-requires-3
unfolding meter_point
note-requires-3 c =
    let x = problem_if (eqb c.args.numerator 0) 3 c.args.index 0 in
    let y = problem_if (not (good_den c.args.denominator)) 4 c.args.index c.args.denominator in
    let z = problem_if (ltb c.args.bar c.args.low) 5 c.args.index 0 in
    ready_more y z (ready_more x (y ++ z) c.requires c.note.ensures) (rw c.good_denominator.ensures at c.note-2.ensures)

pub returns : goal.returns
unfolding meter_point
returns c =
    let x = problem_if (eqb c.args.numerator 0) 3 c.args.index 0 in
    let y = problem_if (not (good_den c.args.denominator)) 4 c.args.index c.args.denominator in
    let z = problem_if (ltb c.args.bar c.args.low) 5 c.args.index 0 in
    adds_more x (y ++ z) c.note.ensures (adds_more y z (rw c.good_denominator.ensures at c.note-2.ensures) c.note-3.ensures)
