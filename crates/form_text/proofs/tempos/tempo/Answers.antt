-- A decimal where one reads back, and else the bits.
use Rattle.std.proofs.Common.{arith}
use Rattle.text.proofs.Laws.{append_behind, append_as}
use Rattle.form_text.proofs.Digits.{few_digits, tempo_decimal, tempo_bits_lem, digits_length}
use Rattle.form_text.proofs.tempos.tempo.Goals as goal

pub overflow_cast-digits_for : goal.overflow_cast-digits_for
overflow_cast-digits_for c = omega (arith, c.digits_for.ensures, few_digits c.args.bits c.in-Some.places c.in-Some.ensures.value (omega arith))

pub returns-in-Some : goal.returns-in-Some
returns-in-Some c =
    let text = tempo_decimal c.args.bits c.in-Some.ensures.value (omega arith) c.digits_for.ensures in
    record { puts = append_as text c.point.ensures.puts; upper_bound = c.point.ensures.upper_bound }

pub returns-in-None : goal.returns-in-None
returns-in-None c =
    let text = tempo_bits_lem c.args.bits c.in-None.ensures.value (omega arith) in
    record { puts = append_as text (append_behind c.bytes.ensures c.last_digits.ensures (omega arith)); upper_bound = omega (arith, digits_length 16 8 c.args.bits) }
