-- What is to be read stays the number so far and the bytes that are left.
use Rattle.std.proofs.Common.{◌≡◌, ℕ, ◌*◌, sym, ap, ◌∙◌, length, drop, arith}
use lib.Seq.{drop-length}
use Rattle.spelling.specs.Words.{number_by}
use Rattle.spelling.proofs.Reading.{none_left, stops, goes_on, passes}
use Rattle.spelling.proofs.digits.behind.Goals as goal

pub returns-in_err-digit : goal.returns-in_err-digit
returns-in_err-digit c =
    c.from_residual.ensures
    ∙ sym (c.loop-byte.invariant.1 ∙ stops c.args.base c.args.limit c.loop-byte.n c.args.word.now c.loop-byte.byte-index (omega arith) c.in_err-digit.ensures)

pub returns-in_err-checked_mul : goal.returns-in_err-checked_mul
returns-in_err-checked_mul c =
    let times = ap (λ (b : ℕ). c.loop-byte.n * b) c.from.ensures in
    c.from_residual-in_err-checked_mul.ensures
    ∙ sym (c.loop-byte.invariant.1
    ∙ passes c.args.base c.args.limit c.loop-byte.n c.args.word.now c.loop-byte.byte-index (omega arith) (omega arith) c.in_ok-digit.ensures.0 (omega (arith, c.in_err-checked_mul.ensures)))

pub returns-in_err-n : goal.returns-in_err-n
returns-in_err-n c =
    let times = ap (λ (b : ℕ). c.loop-byte.n * b) c.from.ensures in
    c.from_residual-in_err-n.ensures
    ∙ sym (c.loop-byte.invariant.1
    ∙ passes c.args.base c.args.limit c.loop-byte.n c.args.word.now c.loop-byte.byte-index (omega arith) (omega arith) c.in_ok-digit.ensures.0
    (omega (arith, c.in_err-n.ensures, c.in_ok-checked_mul.ensures, c.in_ok-digit.ensures)))

pub returns-then-n-limit : goal.returns-then-n-limit
returns-then-n-limit c =
    let times = ap (λ (b : ℕ). c.loop-byte.n * b) c.from.ensures in
    sym (c.loop-byte.invariant.1
    ∙ passes c.args.base c.args.limit c.loop-byte.n c.args.word.now c.loop-byte.byte-index (omega arith) (omega arith) c.in_ok-digit.ensures.0
    (omega (arith, c.in_ok-n.ensures, c.in_ok-checked_mul.ensures, c.in_ok-digit.ensures)))

pub loop-byte-preserved : goal.loop-byte-preserved
loop-byte-preserved c =
    let times = ap (λ (b : ℕ). c.loop-byte.n * b) c.from.ensures in
    let more = goes_on c.args.base c.args.limit c.loop-byte.n c.args.word.now c.loop-byte.byte-index (omega arith) c.in_ok-n.n c.in_ok-digit.ensures.0 (omega (arith, c.in_ok-n.ensures, c.in_ok-checked_mul.ensures, c.in_ok-digit.ensures)) in
    (omega arith, c.loop-byte.invariant.1 ∙ more)

pub returns : goal.returns
returns c =
    let e : c.loop-byte.byte-index ≡ length c.args.word.now = omega arith in
    sym (c.loop-byte.invariant.1 ∙ ap (λ (k : ℕ). number_by c.args.base c.args.limit c.loop-byte.n (drop k c.args.word.now)) e
    ∙ ap (number_by c.args.base c.args.limit c.loop-byte.n) (drop-length c.args.word.now) ∙ none_left c.args.base c.args.limit c.loop-byte.n c.loop-byte.invariant.0)
