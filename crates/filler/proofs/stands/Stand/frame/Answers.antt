-- With points the seconds are those of the walk, and without them there is no walk.
use Rattle.std.proofs.Common.{◌<◌, ap, sym, ◌∙◌, Float, length, pos_of_ne-zero}
use Rattle.std.proofs.lemmas.Bool.{eqb-false}
use Rattle.beats.specs.Frames.{frames_at}
use Rattle.timeline.specs.Places.{frame_at_beat}
use Rattle.timeline.proofs.Laws.{map_seconds}
use Rattle.filler.proofs.stands.Stand.frame.Goals as goal

pub returns : goal.returns
unfolding frame_at_beat
returns c =
    let map = c.args.map.now in
    let some : 0 < length map.nums.now = pos_of_ne-zero (eqb-false _ 0 (sym c.is_empty.ensures ∙ c.if-is_empty.false)) in
    c.frames_at.ensures
    ∙ ap (λ (x : Float). frames_at x c.args.t.sample_rate)
    (c.later.ensures ∙ c.requires.seconds some ∙ map_seconds c.args.t.bpm map.nums.now map.dens.now map.tempos.now map.parallel some c.args.self.beat)
