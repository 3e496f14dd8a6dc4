-- The loop's invariant: the walk over the points from i on, from where it stands, answers as the whole walk does.
use Rattle.std.proofs.Common.{◌∙◌, sym, refl, ◌<◌, length, arith}
use Rattle.std.specs.Float.Ieee.{of_bits}
use Rattle.tempo.proofs.Walking.{begins, ends, stops, goes}
use Rattle.tempo.proofs.map.TempoMap.walk.Goals as goal

pub loop-i-init : goal.loop-i-init
unfolding of_bits
loop-i-init g c =
    λ stop answer d. begins _ _ _ c.args.self.now.parallel stop answer c.requires.some _ c.tempo_of-tempo.ensures

pub loop-i-preserved : goal.loop-i-preserved
loop-i-preserved g c =
    λ stop answer d.
    let inside : c.loop-i.i < length c.args.self.now.nums.now = omega arith in
    let on = sym (d _ _ _ c.stop.ensures) ∙ c.if-stop.false in
    rw c.later-there.ensures
    (goes _ _ _ c.args.self.now.parallel stop answer c.loop-i.i _ _ _ _ (c.loop-i.invariant stop answer d) inside _ refl _ (rw c.beat.ensures at c.float_of-at.ensures) _ c.tempo_of-tempo-in-loop-i.ensures
    (rw c.later-there.ensures at on))

pub returns-then-stop : goal.returns-then-stop
returns-then-stop g c =
    λ stop answer d e.
    let inside : c.loop-i.i < length c.args.self.now.nums.now = omega arith in
    let off = sym (d _ _ _ c.stop.ensures) ∙ c.if-stop.true in
    e _ _ _ _ c.answer.ensures
    ∙ stops _ _ _ c.args.self.now.parallel stop answer c.loop-i.i _ _ _ _ (c.loop-i.invariant stop answer d) inside _ refl _ (rw c.beat.ensures at c.float_of-at.ensures) (rw c.later-there.ensures at off)

pub returns : goal.returns
returns g c =
    λ stop answer d e.
    e _ _ _ _ c.answer-2.ensures
    ∙ ends _ _ _ c.args.self.now.parallel stop answer c.loop-i.i _ _ _ _ (c.loop-i.invariant stop answer d) (omega arith)
