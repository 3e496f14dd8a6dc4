-- The points before k are stored, and the words of the others are left.
use Rattle.std.proofs.Common.{arith, ap, ◌∙◌, ◌<◌, length, length-append}
use Rattle.points.proofs.Filling.{none, one_more, all}
use Rattle.points.proofs.problems_within.Goals as goal

pub loop-k-init : goal.loop-k-init
loop-k-init g c =
    let e = c.into_iter-k-iterator.ensures.into_iter_gives in
    rw (e, c.enumerate-k-items.ensures.source, c.enumerate-k-items.ensures.count, c.chunks_exact.ensures.rest) (record { by_three = c.chunks_exact.ensures.size; filled = none g.row.N _ })

pub loop-k-preserved : goal.loop-k-preserved
loop-k-preserved g c =
    let now = c.loop-k.invariant in
    let s = c.in-Some.ensures.steps in
    let three = s.0.1.1 ∙ now.by_three in
    let inside : c.loop-k.k-iterator.count < g.row.N = omega (arith, now.filled.left, three, ap length s.0.1.0, length-append c.in-Some.point.now c.next.new.self.iter.rest.now, c.requires.room) in
    record { by_three = s.0.0 ∙ now.by_three; filled = rw (s.2, s.1) (one_more now.filled c.in-Some.point.now _ c.point_of.result s.0.1.0 three inside c.point_of.ensures) }

pub returns-clause-answer : goal.returns-clause-answer
returns-clause-answer g c =
    let now = c.loop-k.invariant in
    let s = c.in-None.ensures.steps in
    let end : length c.loop-k.k-iterator.iter.rest.now < 3 = omega (arith, now.by_three, s.0.1.0) in
    rw (all now.filled end) at c.meter_map_problems.ensures.answer

pub returns-clause-words : goal.returns-clause-words
returns-clause-words g c =
    let now = c.loop-k.invariant in
    let s = c.in-None.ensures.steps in
    let end : length c.loop-k.k-iterator.iter.rest.now < 3 = omega (arith, now.by_three, s.0.1.0) in
    rw (all now.filled end) at c.meter_map_problems.ensures.words
