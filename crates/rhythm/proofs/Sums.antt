-- The arithmetic of steps: products that fit, the remainder by the sign of the shift, and the two ways of writing the nearest whole number.
use Rattle.std.proofs.Common.{◌≡◌, ℕ, zero, suc, ◌+◌, ◌-◌, ◌*◌, ◌/◌, ◌%◌, ◌<◌, ◌≤◌, true, false, pos, ◌+ℤ◌, refl, ap, mod-lt, div-add-mod', div-mul-le_self, arith, le-ltb, lt-ltb}
use Rattle.std.proofs.Math.Nat.{lt-div-mul-add}
use Rattle.numbers.specs.Signs.{with_sign}
use Rattle.rounding.specs.Floats.{half_up}
use Rattle.rounding.proofs.Laws.{Nearest, nearest, nearest_one}
use Rattle.rhythm.specs.Values.{remainder}

-- ---- the remainder of step + size, and of step - size

module _ (step total : ℕ) where
  pub turned_on : (size : ℕ) → (step + size) % total ≡ remainder (pos step +ℤ with_sign false size) total
  unfolding remainder
  turned_on size = refl

  pub turned_back : (size : ℕ) → size ≤ step → (step - size) % total ≡ remainder (pos step +ℤ with_sign true size) total
  unfolding remainder
  turned_back zero h = let e : step - 0 ≡ step + 0 = omega arith in ap (λ (k : ℕ). k % total) e
  turned_back (suc size) h = simp (le-ltb step (suc size) h)

  pub turned_below : (size : ℕ) → step < size → total - 1 - (size - step - 1) % total ≡ remainder (pos step +ℤ with_sign true size) total
  unfolding remainder
  turned_below zero h = absurd (omega arith)
  turned_below (suc size) h =
      let e : suc size - step - 1 ≡ suc size - suc step = omega arith in
      simp (lt-ltb step (suc size) h) (ap (λ (k : ℕ). total - 1 - k % total) e)

-- ---- the nearest whole number, halves going up, as the code works it out

-- half the divisor is added, then cut
pub snap : (n d : ℕ) → 0 < d → (n + d / 2) / d ≡ half_up n d
snap n d h =
    let near : Nearest n d ((n + d / 2) / d) = record {
      least = omega (arith, div-mul-le_self (n + d / 2) d);
      most = omega (arith, lt-div-mul-add {a = n + d / 2} h);
    } in
    nearest_one n d _ _ near (nearest n d h)

-- the quotient, and one more where the remainder is a half or over
module _ (n d : ℕ) (h : 0 < d) where
  pub under_half : n % d * 2 < d → n / d ≡ half_up n d
  under_half l =
      let near : Nearest n d (n / d) = record { least = omega (arith, div-add-mod' n d); most = omega (arith, div-add-mod' n d) } in
      nearest_one n d _ _ near (nearest n d h)

  pub from_half : d ≤ n % d * 2 → n / d + 1 ≡ half_up n d
  from_half l =
      let small : n % d < d = mod-lt n h in
      let near : Nearest n d (n / d + 1) = record { least = omega (arith, div-add-mod' n d); most = omega (arith, div-add-mod' n d) } in
      nearest_one n d _ _ near (nearest n d h)
