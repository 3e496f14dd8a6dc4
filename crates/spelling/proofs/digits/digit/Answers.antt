-- Below 16 the digit that std reads is the definition's.
use Rattle.std.proofs.Common.{◌<◌, ap, arith}
use Rattle.std.specs.Char.{digit_value}
use Rattle.spelling.proofs.Reading.{read_alike, reads_alike}
use Rattle.spelling.proofs.digits.digit.Goals as goal

pub returns-in_err-digit : goal.returns-in_err-digit
returns-in_err-digit c =
    let char = ap digit_value c.from.ensures in
    rw c.from_residual.ensures (λ h. c.in_err-digit.ensures.value (omega (arith, h, reads_alike c.args.byte c.args.base (omega arith) h, char)))

pub returns : goal.returns
returns c =
    let char = ap digit_value c.from.ensures in
    let read : digit_value c.args.byte < c.args.base = omega (arith, char, c.in_ok-digit.ensures.value.0) in
    let same = read_alike c.args.byte c.args.base (omega arith) read in
    (omega (arith, same), omega (arith, same, char, c.in_ok-digit.ensures.value.1))
