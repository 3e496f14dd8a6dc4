-- The searches give what `Found` says, and the count and the three writers follow from it.
use Rattle.std.proofs.Common.{sym, ◌∙◌}
use Rattle.cues.proofs.Filling.{found, ends_few, count_is, none_left, first_writes, laps_write, last_writes, all_written}
use Rattle.cues.proofs.play.fill.Goals as goal

pub total-requires : goal.total-requires
total-requires c =
    let f = (found _ _ _ _ _ _ _ c.args.lines.in_order c.requires.few c.requires.fits c.place_of-place.ensures c.part_from.ensures c.place_from-again.ensures c.part_from-2.ensures c.part_from-3.ensures) in
    ends_few _ c.args.p _ _ _ _ _ f

pub returns-in_err-n : goal.returns-in_err-n
returns-in_err-n c =
    let f = (found _ _ _ _ _ _ _ c.args.lines.in_order c.requires.few c.requires.fits c.place_of-place.ensures c.part_from.ensures c.place_from-again.ensures c.part_from-2.ensures c.part_from-3.ensures) in
    record {
      count = c.from_residual.ensures ∙ sym c.in_err-n.was ∙ count_is _ c.args.p _ _ _ _ _ f _ _ c.total.ensures;
      words = none_left _ c.args.p _ _ _ _ _ f c.args.out.now _ c.total.ensures c.in_err-n.was;
    }

pub write-at-requires : goal.write-at-requires
write-at-requires c =
    let f = (found _ _ _ _ _ _ _ c.args.lines.in_order c.requires.few c.requires.fits c.place_of-place.ensures c.part_from.ensures c.place_from-again.ensures c.part_from-2.ensures c.part_from-3.ensures) in
    first_writes _ c.args.p _ _ _ _ _ f c.args.out.now _ _ c.total.ensures c.in_ok-n.was

pub write_laps-next-requires : goal.write_laps-next-requires
write_laps-next-requires c =
    let f = (found _ _ _ _ _ _ _ c.args.lines.in_order c.requires.few c.requires.fits c.place_of-place.ensures c.part_from.ensures c.place_from-again.ensures c.part_from-2.ensures c.part_from-3.ensures) in
    laps_write _ c.args.p _ _ _ _ _ f c.args.out.now _ _ c.total.ensures c.in_ok-n.was _ _ (c.write-at.ensures.next, c.write-at.ensures.words)

pub write-requires : goal.write-requires
write-requires c =
    let f = (found _ _ _ _ _ _ _ c.args.lines.in_order c.requires.few c.requires.fits c.place_of-place.ensures c.part_from.ensures c.place_from-again.ensures c.part_from-2.ensures c.part_from-3.ensures) in
    last_writes _ c.args.p _ _ _ _ _ f c.args.out.now _ _ c.total.ensures c.in_ok-n.was _ _ (c.write-at.ensures.next, c.write-at.ensures.words)
    _ _ (c.write_laps-next.ensures.next, c.write_laps-next.ensures.words)

pub returns : goal.returns
returns c =
    let f = (found _ _ _ _ _ _ _ c.args.lines.in_order c.requires.few c.requires.fits c.place_of-place.ensures c.part_from.ensures c.place_from-again.ensures c.part_from-2.ensures c.part_from-3.ensures) in
    record {
      count = sym c.in_ok-n.was ∙ count_is _ c.args.p _ _ _ _ _ f _ _ c.total.ensures;
      words =
          all_written _ c.args.p _ _ _ _ _ f c.args.out.now _ _ c.total.ensures c.in_ok-n.was _ _ (c.write-at.ensures.next, c.write-at.ensures.words)
          _ _ (c.write_laps-next.ensures.next, c.write_laps-next.ensures.words) _ c.write.ensures.words;
    }
