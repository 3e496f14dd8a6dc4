-- The loop keeps a stand that serves the beat: a point that the walk passes, it passes for every later beat too.
use Rattle.std.proofs.Common.{pos, get_or, refl, subst, arith, w64}
use mir.ValLaws.{to_z-of_z}
use Rattle.filler.specs.Carried.{Stopped}
use Rattle.filler.proofs.Serving.{as_stand, serves_own, stopped_end, stopped_here, serves_on}
use Rattle.filler.proofs.stands.Stand.walk_to.Goals as goal

pub loop-i-init : goal.loop-i-init
loop-i-init c =
    let map = c.args.map.now in
    record { own_beat = refl; own_next = refl; serves = serves_own map.nums.now map.dens.now map.tempos.now map.parallel c.args.beat c.args.self c.requires }

pub returns-then-beat-at-clause-stopped : goal.returns-then-beat-at-clause-stopped
returns-then-beat-at-clause-stopped c =
    let map = c.args.map.now in
    let kept = c.loop-i.invariant in
    let at = c.loop-i.stand in
    subst (Stopped map.nums.now map.dens.now map.tempos.now) (as_stand at c.args.beat c.loop-i.i kept.own_beat kept.own_next)
    (stopped_here map.nums.now map.dens.now map.tempos.now map.parallel c.args.beat at.secs at.from at.tempo c.loop-i.i kept.serves
    (omega (arith, c.loop-i-test.true, c.len-i-end.ensures)) _ (to_z-of_z w64 (get_or map.nums.now c.loop-i.i (pos 0)) (record { sfits = c.float_of-arg-1.given })) _ c.float_of-at.ensures c.if-beat-at.true)

pub loop-i-preserved : goal.loop-i-preserved
loop-i-preserved c =
    let map = c.args.map.now in
    let kept = c.loop-i.invariant in
    let at = c.loop-i.stand in
    record {
      own_beat = kept.own_beat;
      own_next = refl;
      serves =
          serves_on map.nums.now map.dens.now map.tempos.now map.parallel c.args.beat at.secs at.from at.tempo c.loop-i.i kept.serves
          (omega (arith, c.loop-i-test.true, c.len-i-end.ensures)) _ (to_z-of_z w64 (get_or map.nums.now c.loop-i.i (pos 0)) (record { sfits = c.float_of-arg-1.given })) _ c.float_of-at.ensures
          c.if-beat-at.false _ _ c.later.ensures c.tempo_of.ensures;
    }

pub returns-clause-stopped : goal.returns-clause-stopped
returns-clause-stopped c =
    let map = c.args.map.now in
    let kept = c.loop-i.invariant in
    let at = c.loop-i.stand in
    subst (Stopped map.nums.now map.dens.now map.tempos.now) (as_stand at c.args.beat c.loop-i.i kept.own_beat kept.own_next)
    (stopped_end map.nums.now map.dens.now map.tempos.now map.parallel c.args.beat at.secs at.from at.tempo c.loop-i.i kept.serves (omega (arith, c.loop-i-test.false, c.len-i-end.ensures)))
