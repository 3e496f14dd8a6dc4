-- After k turns the first k points are put.
use Rattle.std.proofs.Common.{refl, ap, ◌∙◌, arith, get_or, pos, w64, to_z, of_z, rules}
use mir.ValLaws.{to_z-of_z}
use Rattle.text.proofs.Laws.{append_as}
use Rattle.score.specs.Bytes.{words_bytes}
use Rattle.score_writer.proofs.Putting.{point_length, no_points, next_point, all_points, points_place, words_end}
use Rattle.score_writer.proofs.words.points.Goals as goal

pub loop-k-init : goal.loop-k-init
loop-k-init c = (refl, no_points _)

pub point-requires : goal.point-requires
point-requires c = omega (arith, points_place c.args.map.nums.now c.args.map.dens.now c.args.map.tempos.now c.loop-k.k c.args.map.parallel.even_dens c.args.map.parallel.even_tempos (omega arith) c.loop-k.invariant.1)

pub loop-k-preserved : goal.loop-k-preserved
loop-k-preserved c =
    let x = c.loop-k.invariant.1 in
    let e = c.args.map.parallel.even_dens in
    let f = c.args.map.parallel.even_tempos in
    let here = to_z-of_z w64 (get_or c.args.map.nums.now c.loop-k.k (pos 0)) (search rules) in
    let place = points_place c.args.map.nums.now c.args.map.dens.now c.args.map.tempos.now c.loop-k.k e f (omega arith) x in
    let kept = words_end _ (omega (arith, place, point_length (to_z w64 (of_z w64 (get_or c.args.map.nums.now c.loop-k.k (pos 0)))) (get_or c.args.map.dens.now c.loop-k.k 0) (get_or c.args.map.tempos.now c.loop-k.k 0))) c.point.ensures in
    (kept.1 ∙ c.loop-k.invariant.0, next_point c.args.map.nums.now c.args.map.dens.now c.args.map.tempos.now c.loop-k.k e f (omega arith) (omega arith) x here c.point.ensures)

pub returns : goal.returns
returns c = append_as (ap words_bytes (all_points c.args.map.nums.now c.args.map.dens.now c.args.map.tempos.now c.loop-k.k (omega arith) c.args.map.parallel.even_dens c.args.map.parallel.even_tempos)) c.loop-k.invariant.1
