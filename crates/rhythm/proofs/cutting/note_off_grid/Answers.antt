-- What the walk finds from here on is what it finds in all.
use Rattle.std.proofs.Common.{sym, ap, ◌∙◌}
use Rattle.notes.proofs.Laws.{next_note, no_note}
use Rattle.rhythm.specs.Cuts.{note_grid, grid_answer}
use Rattle.rhythm.proofs.Gridding.{step_off, len_off, on, all_on}
use Rattle.rhythm.proofs.cutting.note_off_grid.Goals as goal

pub loop-place-init : goal.loop-place-init
loop-place-init c = ap (note_grid c.args.num c.args.den 0) c.each-note-items.ensures.notes

pub returns-then-n-m-ne0 : goal.returns-then-n-m-ne0
returns-then-n-m-ne0 c =
    let place = c.loop-place.place in
    let next = ap (note_grid c.args.num c.args.den place) (next_note c.each-note-items.result.now place c.from-n.result _ c.loop-place-test.true c.from-n.ensures) in
    sym (ap grid_answer (sym c.loop-place.invariant ∙ next ∙ step_off c.args.num c.args.den place c.from-n.result _ c.if-n-m-ne0.true))

pub returns-then-n-m-ne0-2 : goal.returns-then-n-m-ne0-2
returns-then-n-m-ne0-2 c =
    let place = c.loop-place.place in
    let next = ap (note_grid c.args.num c.args.den place) (next_note c.each-note-items.result.now place c.from-n.result _ c.loop-place-test.true c.from-n.ensures) in
    sym (ap grid_answer (sym c.loop-place.invariant ∙ next ∙ len_off c.args.num c.args.den place c.from-n.result _ c.if-n-m-ne0.false c.if-n-m-ne0-2.true))

pub loop-place-preserved : goal.loop-place-preserved
loop-place-preserved c =
    let place = c.loop-place.place in
    let next = ap (note_grid c.args.num c.args.den place) (next_note c.each-note-items.result.now place c.from-n.result _ c.loop-place-test.true c.from-n.ensures) in
    sym (next ∙ on c.args.num c.args.den place c.from-n.result _ c.if-n-m-ne0.false c.if-n-m-ne0-2.false) ∙ c.loop-place.invariant

pub returns : goal.returns
returns c =
    let place = c.loop-place.place in
    let none = ap (note_grid c.args.num c.args.den place) (no_note c.each-note-items.result.now place c.loop-place-test.false) ∙ all_on c.args.num c.args.den place in
    sym (ap grid_answer (sym c.loop-place.invariant ∙ none))
