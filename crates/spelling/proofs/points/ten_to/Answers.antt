-- Each literal is the power's float, by computing.
use Rattle.std.proofs.Common.{◌≡◌, ℕ, ◌^◌, pos, sym, ap, arith}
use lib.Ieee.{Float, binary32, of_int, of_bits, of_fields, odd, round}
use Rattle.spelling.proofs.points.ten_to.Goals as goal

power : ℕ → Float
power places = of_int binary32 (pos (10 ^ places))

pub returns-in_default : goal.returns-in_default
unfolding power of_bits of_fields odd of_int round
returns-in_default c =
    let last : 10 ≡ c.args.places = omega arith in
    ap power last

pub returns-in-0 : goal.returns-in-0
unfolding power of_bits of_fields odd of_int round
returns-in-0 c = ap power (sym c.in-0.is)

pub returns-in-1 : goal.returns-in-1
unfolding power of_bits of_fields odd of_int round
returns-in-1 c = ap power (sym c.in-1.is)

pub returns-in-2 : goal.returns-in-2
unfolding power of_bits of_fields odd of_int round
returns-in-2 c = ap power (sym c.in-2.is)

pub returns-in-3 : goal.returns-in-3
unfolding power of_bits of_fields odd of_int round
returns-in-3 c = ap power (sym c.in-3.is)

pub returns-in-4 : goal.returns-in-4
unfolding power of_bits of_fields odd of_int round
returns-in-4 c = ap power (sym c.in-4.is)

pub returns-in-5 : goal.returns-in-5
unfolding power of_bits of_fields odd of_int round
returns-in-5 c = ap power (sym c.in-5.is)

pub returns-in-6 : goal.returns-in-6
unfolding power of_bits of_fields odd of_int round
returns-in-6 c = ap power (sym c.in-6.is)

pub returns-in-7 : goal.returns-in-7
unfolding power of_bits of_fields odd of_int round
returns-in-7 c = ap power (sym c.in-7.is)

pub returns-in-8 : goal.returns-in-8
unfolding power of_bits of_fields odd of_int round
returns-in-8 c = ap power (sym c.in-8.is)

pub returns-in-9 : goal.returns-in-9
unfolding power of_bits of_fields odd of_int round
returns-in-9 c = ap power (sym c.in-9.is)
