-- Each call makes b smaller, and the definition makes the same step (`gcd_step`).
use Rattle.std.proofs.Common.{sym, ap, ◌∙◌}
use Rattle.numbers.proofs.Divisor.{gcd_zero, gcd_one, gcd_step}
use Rattle.numbers.specs.Divisor.{gcd_of}
use Rattle.numbers.proofs.+gcd.Goals as goal

pub returns-then-b-eq0 : goal.returns-then-b-eq0
returns-then-b-eq0 t c = sym (ap (gcd_of c.args.a) c.if-b-eq0.true ∙ gcd_zero c.args.a)

pub returns-then-b-eq1 : goal.returns-then-b-eq1
returns-then-b-eq1 t c = sym (ap (gcd_of c.args.a) c.if-b-eq1.true ∙ gcd_one c.args.a)

pub returns : goal.returns
returns t c = c.gcd.ensures ∙ sym (gcd_step c.args.a c.args.b c.if-b-eq0.false)
