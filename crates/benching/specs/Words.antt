-- Numbers that look random, the checksum of answers, and where an input lies.
use Rattle.std.specs.Prelude.{ℕ, zero, suc, ◌+◌, ◌*◌, ◌/◌, ◌%◌, ◌^◌, cond, ℤ, bit_xor, unsigned_abs}
use Rattle.numbers.specs.Signs.{is_neg}

-- a 64-bit word with its bits moved up by so many places; what passes the end is lost
abbrev pub moved_up : ℕ → ℕ → ℕ
moved_up places x = x * 2 ^ places % 2 ^ 64

-- and moved down
abbrev pub moved_down : ℕ → ℕ → ℕ
moved_down places x = x / 2 ^ places

-- the number after x: three times, where a number's bits differ from its own bits, moved
unfoldable pub next_of : ℕ → ℕ
next_of x =
    let a = bit_xor x (moved_up 13 x) in
    let b = bit_xor a (moved_down 7 a) in
    bit_xor b (moved_up 17 b)

-- number n of the sequence, counted from 0
unfoldable pub random : ℕ → ℕ
random zero = 0x2545F4914F6CDD1D
random (suc n) = next_of (random n)

-- the sum is turned: its five highest bits become its lowest. Then the answer is added, and what passes 64 bits is lost
abbrev pub mixed_of : ℕ → ℕ → ℕ
mixed_of sum answer = (sum % 2 ^ 59 * 2 ^ 5 + sum / 2 ^ 59 + answer) % 2 ^ 64

-- input k lies k golden sections of 8,192 places behind the middle, round and round
abbrev pub place_of : ℕ → ℕ
place_of k = (4096 + 5063 * k) % 8192

-- the numerator's size, its sign in the highest bit, and the denominator in the upper half
abbrev pub fraction_word : ℤ → ℕ → ℕ
fraction_word num den = bit_xor (bit_xor (unsigned_abs num) (cond (is_neg num) (2 ^ 63) 0)) (den * 2 ^ 32)
