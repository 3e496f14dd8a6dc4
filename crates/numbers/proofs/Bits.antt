-- Two's complement at 64 bits, and back: the bits of a number are the number's, and the number of bits has those bits. Assumes nothing.
use Rattle.std.proofs.Common.{suc, w64, of_z, to_z}
use mathlib.Core.Path.{◌≡◌, refl, ap}
use mathlib.Core.Bool.{Bool, true, false, cond}
use Prim.Native.Nat.{ℕ, ◌-◌, ◌^◌, ◌<◌, ◌≤◌}
use native.Mathlib.Omega.{arith}
use borrow.Author.Tests.{lt-ltb, le-ltb, leb-true}
use lib.Dec.{leb, ltb}
use lib.IntN.{ℤ, pos, negsuc}
use Rattle.numbers.specs.Signs.{fits_i64}
use Rattle.numbers.specs.Bits.{signed_of, bits_of}
use Rattle.numbers.proofs.Flags.{and_left}

-- the machine's own bits of a number, and its number of bits, are those
pub machine_bits : (x : ℤ) → of_z w64 x ≡ bits_of x
unfolding bits_of
machine_bits (pos n) = refl
machine_bits (negsuc n) = omega arith

pub machine_signed : (n : ℕ) → to_z w64 n ≡ signed_of n
unfolding signed_of
machine_signed n = let e : 2 ^ 64 - suc n ≡ 18446744073709551615 - n = omega arith in ap (λ (m : ℕ). cond (ltb n 9223372036854775808) (pos n) (negsuc m)) e

-- ---- there and back

pub bits_fit : (x : ℤ) → fits_i64 x ≡ true → bits_of x < 2 ^ 64
unfolding bits_of
bits_fit (pos n) h = omega (arith, leb-true n 9223372036854775807 h)
bits_fit (negsuc n) h = omega arith

pub signed_bits : (x : ℤ) → fits_i64 x ≡ true → signed_of (bits_of x) ≡ x
unfolding bits_of signed_of
signed_bits (pos n) h = simp (lt-ltb n 9223372036854775808 (omega (arith, leb-true n 9223372036854775807 h)))
signed_bits (negsuc n) h =
    let m : n ≤ 9223372036854775807 = leb-true n 9223372036854775807 (and_left (leb n 9223372036854775807) true h) in
    let e : 18446744073709551615 - (18446744073709551615 - n) ≡ n = omega arith in
    simp (le-ltb (18446744073709551615 - n) 9223372036854775808 (omega arith)) (ap negsuc e)

pub bits_signed : (n : ℕ) → n < 2 ^ 64 → bits_of (signed_of n) ≡ n
unfolding bits_of signed_of
bits_signed n h = go (ltb n 9223372036854775808) refl
  where
    go : (t : Bool) → ltb n 9223372036854775808 ≡ t → bits_of (cond t (pos n) (negsuc (18446744073709551615 - n))) ≡ n
    go true e = refl
    go false e = omega arith
