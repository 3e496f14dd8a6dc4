-- Each field by its callee's equation; past the end every word is 0.
use Rattle.std.proofs.Common.{◌≡◌, ◌+◌, get_or, ◌∙◌, arith, w64}
use lib.ListN.{get_or-eq_default}
use mir.ValLaws.{to_z-of_z}
use Rattle.numbers.specs.Bits.{signed_of}
use Rattle.asking.proofs.beat.beat_at.Goals as goal

pub returns-then-i-q : goal.returns-then-i-q
returns-then-i-q c =
    let num = to_z-of_z w64 c.i64_at.result (record { sfits = c.i64_at.type_inv }) ∙ c.i64_at.ensures in
    λ k. record { num = num k; den = c.u32_at.ensures k }

pub returns-else-i-q : goal.returns-else-i-q
unfolding signed_of
returns-else-i-q c =
    let low : get_or c.args.q.now c.args.i 0 ≡ 0 = get_or-eq_default c.args.q.now 0 {n = c.args.i} c.if-i-q.false in
    let high : get_or c.args.q.now (c.args.i + 1) 0 ≡ 0 = get_or-eq_default c.args.q.now 0 {n = c.args.i + 1} (omega arith) in
    let den : get_or c.args.q.now (c.args.i + 2) 0 ≡ 0 = get_or-eq_default c.args.q.now 0 {n = c.args.i + 2} (omega arith) in
    rw (low, high, den)
