-- The loop keeps what is carried, so that each line is that of its bar asked by itself.
use Rattle.std.proofs.Common.{◌<◌, ◌∙◌, ap, length, arith}
use Rattle.meter.specs.Meters.{points_of}
use Rattle.tempo.specs.Maps.{points}
use Rattle.filler.specs.Fills.{bar_lines}
use Rattle.filler.proofs.Serving.{serves_later}
use Rattle.filler.proofs.Filling.{filled_all, place_serves, filled_ahead, filled_behind}
use Rattle.filler.proofs.bar_lines.fill.Goals as goal
use Rattle.filler.proofs.bar_lines.fill.Goals.{then-ahead-beat, else-ahead-beat, then-ahead-beat-2, else-ahead-beat-2}

pub resume-from-requires : goal.resume-from-requires
resume-from-requires c = place_serves c.loop-k.invariant c.place_of.result _ (omega (arith, c.place_of.ensures))

pub walk_to-stand-requires : goal.walk_to-stand-requires
walk_to-stand-requires c =
    let map = c.args.map.now in
    elim c.if-ahead-beat.branch [
      | then-ahead-beat w ↦ rw w.from-is (serves_later map.nums.now map.dens.now map.tempos.now map.parallel c.loop-k.ahead.beat _ c.loop-k.ahead w.if-ahead-beat.true c.loop-k.invariant.first)
      | else-ahead-beat w ↦ rw w.from-is w.resume-from.ensures
    ]

pub loop-k-preserved : goal.loop-k-preserved
loop-k-preserved c =
    let inside : c.loop-k.k < length c.loop-k.out = omega (arith, c.loop-k.invariant.long, c.loop-k-test.true) in
    elim c.if-ahead-beat-2.branch [
      | then-ahead-beat-2 w ↦ rw (w.ahead-is, w.behind-is) (filled_ahead c.loop-k.invariant inside c.on_to-segment.ensures c.start_of.ensures c.float_of-beat.ensures c.walk_to-stand.ensures.beat_value c.walk_to-stand.ensures.stopped c.frame.ensures)
      | else-ahead-beat-2 w ↦ rw (w.ahead-is, w.behind-is) (filled_behind c.loop-k.invariant inside c.on_to-segment.ensures c.start_of.ensures c.float_of-beat.ensures c.walk_to-stand.ensures.beat_value c.walk_to-stand.ensures.stopped c.frame.ensures w.place_of-else-ahead-beat-2.result)
    ]

pub returns : goal.returns
returns c =
    filled_all c.loop-k.invariant (omega (arith, c.loop-k.invariant.long, c.loop-k-test.false))
    ∙ ap (bar_lines c.args.t (points_of c.args.words.now) (points c.args.map.now)) c.mark.ensures.long
