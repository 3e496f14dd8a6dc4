-- `remainder` is the one number below the total that differs from z by a multiple of it.
use Rattle.std.proofs.Common.{◌≡◌, ℕ, zero, suc, ◌-◌, ◌*◌, ◌/◌, ◌%◌, ◌<◌, ℤ, pos, negsuc, ◌+ℤ◌, ◌*ℤ◌, neg_ℤ, ap, ◌∙◌, mod-lt, suc-mul, div-add-mod', arith, lt-ltb}
use Rattle.rhythm.specs.Values.{remainder}

-- how many totals are taken from z, or given to it
unfoldable pub laps : ℤ → ℕ → ℤ
laps (pos n) total = pos (n / total)
laps (negsuc n) total = negsuc (n / total)

pub remainder_below : (z : ℤ) (total : ℕ) → 0 < total → remainder z total < total
unfolding remainder
remainder_below (pos n) total h = mod-lt n h
remainder_below (negsuc n) total h = omega arith

minus : (s r : ℕ) → r < s → neg_ℤ (pos s) +ℤ pos r ≡ negsuc (s - suc r)
minus zero r h = absurd (omega arith)
minus (suc s) r h = simp (lt-ltb r (suc s) h)

pub remainder_laps : (z : ℤ) (total : ℕ) → 0 < total → laps z total *ℤ pos total +ℤ pos (remainder z total) ≡ z
unfolding remainder laps
remainder_laps (pos n) total h = ap pos (div-add-mod' n total)
remainder_laps (negsuc n) total h =
    let m : n % total < total = mod-lt n h in
    let s = suc-mul (n / total) total in
    let r = total - 1 - n % total in
    let e : suc (n / total) * total - suc r ≡ n = omega (arith, div-add-mod' n total) in
    minus (suc (n / total) * total) r (omega arith) ∙ ap negsuc e
