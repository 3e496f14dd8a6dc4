-- A quotient by a float that is a whole number is the fraction, rounded once: division rounds the fraction of its sides' values, and those are the same.
use Rattle.std.proofs.Common.{◌≡◌, ℕ, ◌*◌, ◌<◌, true, false, sym, refl, ap, ◌∙◌, true≢false, mul_assoc, mul_comm, mul-pos, mul-one, mul_left_comm, ltb→lt}
use lib.Ieee.{Float, nan, inf, fin, Format, up, down, round, div}
use lib.Ieee.Fits.{up_pos, down_pos}
use lib.Ieee.Exact.{HasValue}
use lib.Ieee.Scale.{round_same}
use lib.Ieee.Positive.{positive_of_value}
use Rattle.rounding.proofs.Upward.{not_zero}

pub quotient_is : (f : Format) (x y : Float) (a c b : ℕ) → 0 < b → 0 < c → HasValue x false a c → HasValue y false b 1 → div f x y ≡ round f false a (b * c)
unfolding div
quotient_is f nan y a c b B C h k = absurd h
quotient_is f (inf t) y a c b B C h k = absurd h
quotient_is f (fin true m e) y a c b B C h k = absurd (true≢false h.0)
quotient_is f (fin false m e) nan a c b B C h k = absurd k
quotient_is f (fin false m e) (inf t) a c b B C h k = absurd k
quotient_is f (fin false m e) (fin true o g) a c b B C h k = absurd (true≢false k.0)
quotient_is f (fin false m e) (fin false o g) a c b B C h k =
    rw (not_zero o (positive_of_value (fin false o g) b 1 (refl, k.1) B))
    (round_same f false (m * up e * down g) (o * up g * down e) a (b * c) (mul-pos (mul-pos (ltb→lt 0 o (positive_of_value (fin false o g) b 1 (refl, k.1) B)) (up_pos g)) (down_pos e)) (mul-pos B C)
    (go (m * up e) (o * up g) (down e) (down g) h.1 k.1))
  where
    go : (x y p q : ℕ) → x * c ≡ a * p → y * 1 ≡ b * q → x * q * (b * c) ≡ a * (y * p)
    go x y p q u v =
        let v' : y ≡ b * q = sym (mul-one y) ∙ v in
        let l : x * q * (b * c) ≡ x * c * (b * q) = simp (mul_assoc, mul_comm, mul_left_comm) in
        l ∙ ap (λ (z : ℕ). z * (b * q)) u ∙ rw v' (simp (mul_assoc, mul_comm, mul_left_comm))
