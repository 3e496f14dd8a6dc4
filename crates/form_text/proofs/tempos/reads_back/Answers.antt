-- Too many digits do not read back; others are divided as the definition says.
use native.Mathlib.Omega.{arith}
use Rattle.form_text.proofs.Digits.{not_back, is_back}
use Rattle.form_text.proofs.tempos.reads_back.Goals as goal

pub returns-then-digits-ge16777216 : goal.returns-then-digits-ge16777216
returns-then-digits-ge16777216 c = not_back c.args.bits c.args.places c.digits_for-digits.ensures (omega arith)

pub returns : goal.returns
returns c =
    is_back c.args.bits c.args.places c.digits_for-digits.ensures (omega arith) c.over_ten.ensures
