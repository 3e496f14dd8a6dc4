-- Each return by the tests that led there.
use Rattle.std.proofs.Common.{◌≡◌, ◌↔◌, IsTrue, ℕ, ◌%◌, ltb, eqb, not, true, rules}
use Rattle.std.specs.List.{Any}
use Rattle.notes.proofs.Whole.{uneven, long, sound}
use Rattle.notes.proofs.tested.Goals as goal

pub returns-then-uneven : goal.returns-then-uneven
returns-then-uneven c =
    let four : IsTrue c.any-uneven.result ↔ Any (λ (n : ℕ). not (eqb (n % 4) 0) ≡ true) c.args.counts.now = search rules in
    uneven c.args.counts.now c.any-uneven.result four c.if-uneven.true

pub returns-then-long : goal.returns-then-long
returns-then-long c =
    let four : IsTrue c.any-uneven.result ↔ Any (λ (n : ℕ). not (eqb (n % 4) 0) ≡ true) c.args.counts.now = search rules in
    let most : IsTrue c.any-long.result ↔ Any (λ (n : ℕ). ltb 16384 n ≡ true) c.args.counts.now = search rules in
    long c.args.counts.now c.any-uneven.result four c.if-uneven.false c.any-long.result most c.if-long.true

pub returns : goal.returns
returns c =
    let four : IsTrue c.any-uneven.result ↔ Any (λ (n : ℕ). not (eqb (n % 4) 0) ≡ true) c.args.counts.now = search rules in
    let most : IsTrue c.any-long.result ↔ Any (λ (n : ℕ). ltb 16384 n ≡ true) c.args.counts.now = search rules in
    sound c.args.counts.now c.any-uneven.result four c.if-uneven.false c.any-long.result most c.if-long.false
