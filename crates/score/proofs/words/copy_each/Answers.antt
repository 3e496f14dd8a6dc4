-- What is still to be copied is what is read at the places that are left.
use Rattle.std.proofs.Common.{◌≡◌, ℕ, ◌+◌, ◌-◌, ◌*◌, ◌∷◌, ◌++◌, drop, ap, ◌∙◌, arith}
use Rattle.numbers.proofs.Laws.{begin_by, more_word, finish}
use Rattle.score.specs.Bytes.{each}
use Rattle.score.proofs.Places.{each_step, no_each}
use Rattle.score.proofs.words.copy_each.Goals as goal

pub loop-k-init : goal.loop-k-init
loop-k-init g c = λ at reads.
    let e : c.args.place + c.args.step * 0 ≡ c.args.place = omega arith in
    let z : c.args.count - 0 ≡ c.args.count = omega arith in
    begin_by _ (λ i. each at (e i) c.args.step (z i))

pub loop-k-preserved : goal.loop-k-preserved
loop-k-preserved g c = λ at reads.
    let behind : c.args.place + c.args.step * c.loop-k.k + c.args.step ≡ c.args.place + c.args.step * (c.loop-k.k + 1) = grind arith in
    let next =
    each_step at (c.args.place + c.args.step * c.loop-k.k) c.args.step c.args.count c.loop-k.k c.read.result c.loop-k-test.true (reads c.loop-k.k c.read.result c.loop-k-test.true c.read.ensures)
    ∙ ap (λ (p : ℕ). c.read.result ∷ each at p c.args.step (c.args.count - (c.loop-k.k + 1))) behind in
    more_word c.read.result (omega arith) next (c.loop-k.invariant at reads)

pub returns : goal.returns
returns g c = λ at reads.
    let e : c.loop-k.k ≡ c.args.count = omega arith in
    let z : c.args.count - c.loop-k.k ≡ 0 = omega arith in
    finish _ _ _ _ _ (no_each at (c.args.place + c.args.step * c.loop-k.k) c.args.step (c.args.count - c.loop-k.k) z) (c.loop-k.invariant at reads)
    ∙ ap (λ (k : ℕ). each at c.args.place c.args.step c.args.count ++ drop k c.args.out.now) e
