-- Laws of signs and magnitudes, and of what the machine reads back from a signed number's bits. Assumes nothing.
use mathlib.Core.Path.{◌≡◌, refl, sym, ap, ◌∙◌}
use mathlib.Core.Bool.{Bool, true, false, and-true}
use Prim.Native.Nat.{ℕ, zero, suc, ◌-◌, ◌<◌, ◌≤◌, ◌^◌, ◌/◌, min}
use native.Mathlib.Omega.{arith}
use lib.IntN.{ℤ, pos, negsuc, neg_ℤ, ◌-ℤ◌}
use lib.Dec.{leb, leb-suc-suc}
use lib.Signed.{mag, lt_z, quot_z}
use native.Mathlib.Nat.{div-le_self}
use borrow.Author.Tests.{le-ltb, leb-true}
use mir.Syntax.{w64}
use mir.Val.{SFits, to_z, of_z}
use mir.ValLaws.{to_z-of_z}
use Rattle.numbers.specs.Signs.{is_neg, with_sign, fits_i64, to_i64, most_of}
use Rattle.numbers.proofs.Flags.{and_left}

-- -1 - n
pub flip_pos : (n : ℕ) → negsuc 0 -ℤ pos n ≡ negsuc n
flip_pos zero = refl
flip_pos (suc n) = ap negsuc (omega arith)

below_zero : (x : ℤ) → lt_z x (pos 0) ≡ is_neg x
below_zero (pos n) = le-ltb n 0 (omega arith)
below_zero (negsuc n) = refl

-- the test x < 0, as the machine makes it
pub test : (x : ℤ) → SFits w64 x → lt_z (to_z w64 (of_z w64 x)) (pos 0) ≡ is_neg x
test x f = rw (to_z-of_z w64 x f) (below_zero x)

-- what the machine reads back from the bits of n, and the number n of the bits n
pub read_pos : (n : ℕ) → n < 2 ^ 63 → to_z w64 n ≡ pos n
read_pos n h = to_z-of_z w64 (pos n) (record { sfits = h })

-- ---- from a sign and a size to the number

-- -1 - k, as the machine computes it
pub flip_read : (k : ℕ) → k < 2 ^ 63 → negsuc 0 -ℤ to_z w64 k ≡ negsuc k
flip_read k h = rw (read_pos k h) (flip_pos k)

-- k is the size less one, stopped
pub stopped_neg : (n k : ℕ) → ((n ≡ 0) → ⊥) → k ≡ min (n - 1) 9223372036854775807 → negsuc k ≡ to_i64 (with_sign true n)
stopped_neg zero k f e = absurd (f refl)
stopped_neg (suc n) k f e = ap negsuc (omega (arith, e))

-- a size that was stopped at 2 ^ 64 - 1 before stops at the same end
pub stopped_twice : (b : Bool) (n : ℕ) → to_i64 (with_sign b (min n 18446744073709551615)) ≡ to_i64 (with_sign b n)
stopped_twice false n = ap pos (omega arith)
stopped_twice true zero = refl
stopped_twice true (suc n) =
    let e : min (suc n) 18446744073709551615 ≡ suc (min n 18446744073709551614) = omega arith in
    rw e (ap negsuc (omega arith))

-- an i64 is not changed by stopping it
pub unstopped : (z : ℤ) → fits_i64 z ≡ true → to_i64 z ≡ z
unstopped (pos n) e = ap pos (omega (arith, leb-true n 9223372036854775807 e))
unstopped (negsuc n) e = ap negsuc (omega (arith, leb-true n 9223372036854775807 (and_left (leb n 9223372036854775807) true e)))

-- whether a number with a sign is an i64
pub in_i64 : (b : Bool) (n : ℕ) → fits_i64 (with_sign b n) ≡ leb n (most_of b)
in_i64 true zero = refl
in_i64 true (suc n) = and-true (leb n 9223372036854775807) ∙ sym (leb-suc-suc n 9223372036854775807)
in_i64 false n = refl

-- ---- division toward zero

mag_minus : (k : ℕ) {a : ℕ} → k ≤ suc a → mag (neg_ℤ (pos k)) ≤ a
mag_minus zero h = omega arith
mag_minus (suc k) h = omega arith

pub mag_quot : (z : ℤ) (g : ℕ) → mag (quot_z z (pos g)) ≤ mag z
mag_quot (pos a) g = div-le_self a g
mag_quot (negsuc a) g = mag_minus (suc a / g) (div-le_self (suc a) g)
