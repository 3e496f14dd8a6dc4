-- Each turn notes the records of one point, and leaves those of the later ones.
use Rattle.std.proofs.Common.{rules, refl, arith, length}
use Rattle.problems.proofs.Listing.{tempo_all, tempo_next, tempo_end}
use Rattle.problems.proofs.Adding.{under_way, next_ready, next_on, all_passed}
use Rattle.problems.proofs.changes.pass.Goals as goal

pub loop-i-init : goal.loop-i-init
loop-i-init c = under_way _ refl (tempo_all _ _ _ c.requires.map c.zero-before.result)

pub point-requires : goal.point-requires
point-requires c =
    rw (c.len-n.ensures, c.beat-at.ensures)
    (next_ready _ _ (tempo_next _ _ _ c.requires.map (length c.args.map.now.nums.now) c.loop-i.i c.loop-i.before (omega arith)) c.loop-i.invariant c.requires.ready)

pub loop-i-preserved : goal.loop-i-preserved
loop-i-preserved c =
    rw c.beat-at.ensures
    (next_on _ _ (tempo_next _ _ _ c.requires.map (length c.args.map.now.nums.now) c.loop-i.i c.loop-i.before (omega arith)) c.loop-i.invariant (rw (c.len-n.ensures, c.beat-at.ensures) at c.point.ensures))

pub returns : goal.returns
returns c =
    let done = all_passed (tempo_end _ _ _ c.requires.map (length c.args.map.now.nums.now) c.loop-i.i c.loop-i.before (omega arith)) c.loop-i.invariant in
    let same = c.loop-i.invariant.same.lent in
    search rules
