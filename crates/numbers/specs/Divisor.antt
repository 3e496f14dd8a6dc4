-- The greatest common divisor, by repeated remainder.
use Rattle.std.specs.Prelude.{ℕ, zero, suc, ◌%◌}

-- (a, b) becomes (b, a % b) until b is 0, and then a is the answer. The first argument bounds the number of steps
unfoldable pub remainders : ℕ → ℕ → ℕ → ℕ
remainders zero a b = a
remainders (suc steps) a zero = a
remainders (suc steps) a (suc b) = remainders steps (suc b) (a % suc b)

-- the remainder falls at each step, so b + 1 steps suffice (`gcd_step` of proofs/Divisor)
unfoldable pub gcd_of : ℕ → ℕ → ℕ
gcd_of a b = remainders (suc b) a b
