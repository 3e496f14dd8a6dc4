-- The four remainders, one after the other.
use Rattle.std.proofs.Common.{◌≡◌, ℕ, ◌+◌, ◌%◌, ◌^◌, sym, ap, arith}
use Rattle.benching.proofs.maps.denominator.Goals as goal

power : (s n : ℕ) → s % 4 ≡ n → 2 ^ (n + 1) ≡ 2 ^ (s % 4 + 1)
power s n e = ap (λ (x : ℕ). 2 ^ (x + 1)) (sym e)

pub returns-in-0 : goal.returns-in-0
returns-in-0 c = power c.args.s 0 c.in-0.is

pub returns-in-1 : goal.returns-in-1
returns-in-1 c = power c.args.s 1 c.in-1.is

pub returns-in-2 : goal.returns-in-2
returns-in-2 c = power c.args.s 2 c.in-2.is

pub returns-in_default : goal.returns-in_default
returns-in_default c = power c.args.s 3 (omega arith)
