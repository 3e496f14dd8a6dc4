-- Each call has one digit less and the number without its last digit, whose text is the definition's without the last.
use Rattle.std.proofs.Common.{◌≡◌, ap, [], ◌∷◌, ℕ, ◌-◌, ◌/◌, ◌<◌, arith, mod-lt}
use Rattle.text.proofs.Laws.{append_behind, append_as}
use Rattle.form_text.specs.TempoTexts.{last_digits}
use Rattle.form_text.proofs.Digits.{no_digits, more_digits, digits_length}
use Rattle.form_text.proofs.tempos.+last_digits.Goals as goal

pub last_digits-requires : goal.last_digits-requires
last_digits-requires t c = (omega arith, (omega arith, omega arith, omega arith))

pub digit_byte-requires : goal.digit_byte-requires
digit_byte-requires t c =
    let some : 0 < c.args.base = omega arith in
    omega (arith, mod-lt c.args.n some)

pub byte-requires : goal.byte-requires
byte-requires t c = omega (arith, digits_length c.args.base (c.args.count - 1) (c.args.n / c.args.base))

pub returns-then-count-gt0 : goal.returns-then-count-gt0
returns-then-count-gt0 t c =
    let put = append_as (ap (λ (k : ℕ). k ∷ []) c.digit_byte.ensures) c.byte.ensures in
    append_as (more_digits c.args.base c.args.n c.args.count c.if-count-gt0.true) (append_behind c.last_digits.ensures put (omega arith))

pub returns-else-count-gt0 : goal.returns-else-count-gt0
returns-else-count-gt0 t c =
    let none : 0 ≡ c.args.count = omega arith in
    append_as (ap (λ (k : ℕ). last_digits c.args.base k c.args.n) none) (no_digits c.args.base c.args.n c.args.page.now)
