-- The greatest common divisor: its recursion, and that it is the greatest. Assumes nothing.
use mathlib.Core.Path.{◌≡◌, refl, ap, ◌∙◌}
use Prim.Native.Nat.{ℕ, zero, suc, ◌%◌, ◌<◌, ◌≤◌, ◌∣◌}
use native.Mathlib.Nat.{mod-lt, dvd_refl, dvd-zero, dvd-mod_iff, zero-lt-suc, pos_of_dvd_of_pos, le_of_dvd, mod-one}
use native.Mathlib.Omega.{arith}
use Rattle.numbers.specs.Divisor.{remainders, gcd_of}

-- any two bounds above b give one answer
enough : (k j a b : ℕ) → b < k → b < j → remainders k a b ≡ remainders j a b
unfolding remainders
enough zero j a b p q = let z : ⊥ = omega arith in absurd z
enough (suc k) zero a b p q = let z : ⊥ = omega arith in absurd z
enough (suc k) (suc j) a zero p q = refl
enough (suc k) (suc j) a (suc b) p q =
    let m : a % suc b < suc b = mod-lt a (zero-lt-suc b) in
    enough k j (suc b) (a % suc b) (omega arith) (omega arith)

pub gcd_zero : (a : ℕ) → gcd_of a 0 ≡ a
unfolding gcd_of remainders
gcd_zero a = refl

gcd_suc : (a b : ℕ) → gcd_of a (suc b) ≡ gcd_of (suc b) (a % suc b)
unfolding gcd_of remainders
gcd_suc a b =
    let m : a % suc b < suc b = mod-lt a (zero-lt-suc b) in
    enough (suc b) (suc (a % suc b)) (suc b) (a % suc b) m (omega arith)

pub gcd_step : (a b : ℕ) → ((b ≡ 0) → ⊥) → gcd_of a b ≡ gcd_of b (a % b)
gcd_step a zero f = absurd (f refl)
gcd_step a (suc b) f = gcd_suc a b

-- a remainder of 1 ends the recursion
pub gcd_one : (a : ℕ) → gcd_of a 1 ≡ 1
gcd_one a = gcd_suc a 0 ∙ ap (gcd_of 1) (mod-one a) ∙ gcd_zero 1

-- the greatest common divisor divides both, and every common divisor divides it
both : (k a b : ℕ) → b < k → (gcd_of a b ∣ a) × (gcd_of a b ∣ b)
both zero a b h = let z : ⊥ = omega arith in absurd z
both (suc k) a zero h = rw (gcd_zero a) (dvd_refl a, dvd-zero a)
both (suc k) a (suc b) h =
    let m : a % suc b < suc b = mod-lt a (zero-lt-suc b) in
    let ih = both k (suc b) (a % suc b) (omega arith) in
    rw (gcd_suc a b) ((dvd-mod_iff (gcd_of (suc b) (a % suc b)) ih.0).0 ih.1, ih.0)

pub gcd_left : (a b : ℕ) → gcd_of a b ∣ a
gcd_left a b = (both (suc b) a b (omega arith)).0

pub gcd_right : (a b : ℕ) → gcd_of a b ∣ b
gcd_right a b = (both (suc b) a b (omega arith)).1

greatest : (k d a b : ℕ) → b < k → d ∣ a → d ∣ b → d ∣ gcd_of a b
greatest zero d a b h p q = let z : ⊥ = omega arith in absurd z
greatest (suc k) d a zero h p q = rw (gcd_zero a) p
greatest (suc k) d a (suc b) h p q =
    let m : a % suc b < suc b = mod-lt a (zero-lt-suc b) in
    rw (gcd_suc a b) (greatest k d (suc b) (a % suc b) (omega arith) q ((dvd-mod_iff d q).1 p))

pub gcd_greatest : (d a b : ℕ) → d ∣ a → d ∣ b → d ∣ gcd_of a b
gcd_greatest d a b p q = greatest (suc b) d a b (omega arith) p q

pub gcd_pos : (a b : ℕ) → 0 < b → 0 < gcd_of a b
gcd_pos a b h = pos_of_dvd_of_pos (gcd_right a b) h

pub gcd_le : (a b : ℕ) → 0 < b → gcd_of a b ≤ b
gcd_le a b h = le_of_dvd h (gcd_right a b)
