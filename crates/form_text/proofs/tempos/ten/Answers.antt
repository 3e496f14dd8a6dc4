-- A power of 10 is not 0.
use Rattle.std.proofs.Common.{arith}
use Rattle.form_text.proofs.Digits.{some_power}
use Rattle.form_text.proofs.tempos.ten.Goals as goal

pub returns : goal.returns
returns c = (c.pow.ensures, omega (arith, c.pow.ensures, some_power c.args.places))
