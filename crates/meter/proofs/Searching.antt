-- The search, over any test of bars that stays true once it is up to 2^31: doubling ends at a bar that passes or shows that 2^31 fails, and halving keeps a bar that fails below one that passes.
use Rattle.std.proofs.Common.{None, Option, Some}
use mathlib.Core.Path.{◌≡◌, refl, sym, ap, ◌∙◌}
use mathlib.Core.Bool.{Bool, true, false}
use Prim.Native.Nat.{ℕ, zero, suc, ◌+◌, ◌-◌, ◌*◌, ◌/◌, ◌<◌, ◌≤◌, ◌^◌}
use native.Mathlib.Nat.{pow-succ', le-mul_of_pos_right, pow-zero, zero-lt-suc, zero-mul, mul_assoc}
use native.Mathlib.Omega.{arith}
use lib.Pow.{pow_pos}
use borrow.Author.Tests.{lt-ltb, le-ltb}
use Rattle.numbers.proofs.Laws.{cases, not_both, by_order}
use Rattle.meter.specs.Counts.{doubling, halving, within, searched, Least}

-- up to 2^31, a test that a bar passes is passed by the bars from there on
abbrev pub Stays : (ℕ → Bool) → Type 0
Stays test = (i j : ℕ) → i ≤ j → j ≤ 2147483648 → test i ≡ true → test j ≡ true

module _ (test : ℕ → Bool) where
  -- ---- one step of each

  module _ (tries hi : ℕ) where
    doubling_ends : test hi ≡ true → doubling test (suc tries) hi ≡ Some hi
    unfolding doubling
    doubling_ends t = rw (t, doubling)

    doubling_more : test hi ≡ false → doubling test (suc tries) hi ≡ doubling test tries (hi * 2)
    unfolding doubling
    doubling_more t = rw (t, doubling)

  module _ (times lo hi : ℕ) where
    halving_ends : hi ≤ lo + 1 → halving test (suc times) lo hi ≡ hi
    unfolding halving
    halving_ends t = rw (le-ltb (lo + 1) hi t, halving)

    halving_down : lo + 1 < hi → test (lo + (hi - lo) / 2) ≡ true → halving test (suc times) lo hi ≡ halving test times lo (lo + (hi - lo) / 2)
    unfolding halving
    halving_down t s = rw (lt-ltb (lo + 1) hi t, s, halving)

    halving_up : lo + 1 < hi → test (lo + (hi - lo) / 2) ≡ false → halving test (suc times) lo hi ≡ halving test times (lo + (hi - lo) / 2) hi
    unfolding halving
    halving_up t s = rw (lt-ltb (lo + 1) hi t, s, halving)

  -- ---- what the code needs

  pub halving_over : (times lo hi : ℕ) → hi ≤ lo + 1 → halving test times lo hi ≡ hi
  unfolding halving
  halving_over zero lo hi h = refl
  halving_over (suc times) lo hi h = halving_ends times lo hi h

  -- the bound of halvings does not matter, as long as it suffices
  halving_enough : (f g lo hi : ℕ) → hi - lo ≤ 2 ^ f → hi - lo ≤ 2 ^ g → halving test f lo hi ≡ halving test g lo hi
  halving_enough zero g lo hi h k =
      let l : hi ≤ lo + 1 = omega (arith, pow-zero 2) in
      halving_over zero lo hi l ∙ sym (halving_over g lo hi l)
  halving_enough (suc f) zero lo hi h k =
      let l : hi ≤ lo + 1 = omega (arith, pow-zero 2) in
      halving_over (suc f) lo hi l ∙ sym (halving_over zero lo hi l)
  halving_enough (suc f) (suc g) lo hi h k =
      by_order (lo + 1) hi
      (λ t. cases (test (lo + (hi - lo) / 2))
      (λ s. halving_down f lo hi t s ∙ halving_enough f g lo (lo + (hi - lo) / 2) (omega (arith, pow-succ' 2 f)) (omega (arith, pow-succ' 2 g)) ∙ sym (halving_down g lo hi t s))
      (λ s. halving_up f lo hi t s ∙ halving_enough f g (lo + (hi - lo) / 2) hi (omega (arith, pow-succ' 2 f)) (omega (arith, pow-succ' 2 g)) ∙ sym (halving_up g lo hi t s)))
      (λ t. halving_over (suc f) lo hi t ∙ sym (halving_over (suc g) lo hi t))

  module _ (lo hi : ℕ) (h : lo + 1 < hi) (k : hi < 2 ^ 32) where
    pub halving_first : test (lo + (hi - lo) / 2) ≡ true → halving test 32 lo (lo + (hi - lo) / 2) ≡ halving test 32 lo hi
    halving_first s = halving_enough 32 31 lo (lo + (hi - lo) / 2) (omega arith) (omega arith) ∙ sym (halving_down 31 lo hi h s)

    pub halving_second : test (lo + (hi - lo) / 2) ≡ false → halving test 32 (lo + (hi - lo) / 2) hi ≡ halving test 32 lo hi
    halving_second s = halving_enough 32 31 (lo + (hi - lo) / 2) hi (omega arith) (omega arith) ∙ sym (halving_up 31 lo hi h s)

  -- hi is a power of two at most 2^31, and what doubling makes of it is `upper`
  abbrev pub Doubled : Option ℕ → ℕ → Type 0
  Doubled upper hi = (tries : ℕ) × ((hi * 2 ^ tries ≡ 2147483648) × (doubling test (suc tries) hi ≡ upper))

  pub doubled_first : Doubled (doubling test 32 1) 1
  doubled_first = (31, (refl, refl))

  pub doubled_pos : (upper : Option ℕ) (hi : ℕ) → Doubled upper hi → 0 < hi
  doubled_pos upper zero d = let z : ◌≡◌ {A = ℕ} 0 2147483648 = sym (zero-mul (2 ^ d.0)) ∙ d.1.0 in absurd (omega arith)
  doubled_pos upper (suc hi) d = zero-lt-suc hi

  pub doubled_ends : (upper : Option ℕ) (hi : ℕ) → Doubled upper hi → test hi ≡ true → Some hi ≡ upper
  doubled_ends upper hi d t = sym (doubling_ends d.0 hi t) ∙ d.1.1

  at_most : (tries hi : ℕ) → 2147483648 ≤ hi → hi * 2 ^ tries ≡ 2147483648 → tries ≡ 0
  at_most zero hi h e = refl
  at_most (suc tries) hi h e =
      let p : 1 ≤ 2 ^ tries = pow_pos tries in
      let m : hi * 2 ≤ hi * 2 * 2 ^ tries = le-mul_of_pos_right (hi * 2) p in
      let z : ⊥ = omega (arith, ap (λ (n : ℕ). hi * n) (pow-succ' 2 tries)) in
      absurd z

  pub doubled_none : (upper : Option ℕ) (hi : ℕ) → Doubled upper hi → 2147483648 ≤ hi → test hi ≡ false → None ≡ upper
  unfolding doubling
  doubled_none upper hi d h t =
      sym (doubling_more 0 hi t) ∙ ap (λ (tries : ℕ). doubling test (suc tries) hi) (sym (at_most d.0 hi h d.1.0)) ∙ d.1.1

  pub doubled_more : (upper : Option ℕ) (hi : ℕ) → Doubled upper hi → hi < 2147483648 → test hi ≡ false → Doubled upper (hi * 2)
  doubled_more upper hi d h t = by_tries d.0 d.1.0 d.1.1
    where
      by_tries : (tries : ℕ) → hi * 2 ^ tries ≡ 2147483648 → doubling test (suc tries) hi ≡ upper → Doubled upper (hi * 2)
      by_tries zero e q = let z : ⊥ = omega (arith, ap (λ (n : ℕ). hi * n) (pow-zero 2)) in absurd z
      by_tries (suc tries) e q = (tries, (mul_assoc hi 2 (2 ^ tries) ∙ ap (λ (n : ℕ). hi * n) (sym (pow-succ' 2 tries)) ∙ e, sym (doubling_more (suc tries) hi t) ∙ q))

  -- ---- the first bar that passes

  module _ (stays : Stays test) where
    earlier : (i j : ℕ) → i ≤ j → j ≤ 2147483648 → test j ≡ false → test i ≡ false
    earlier i j h l e = cases (test i) (λ t. not_both (test j) (stays i j h l t) e) (λ f. f)

    halved : (times lo hi : ℕ) → hi - lo ≤ 2 ^ times → lo < hi → hi ≤ 2147483648 → test lo ≡ false → test hi ≡ true → Least test (halving test times lo hi)
    unfolding halving
    halved zero lo hi w h l p q =
        record { passes = q; fails = λ k kh. earlier k lo (omega (arith, pow-zero 2)) (omega arith) p }
    halved (suc times) lo hi w h l p q =
        by_order (lo + 1) hi
        (λ t. cases (test (lo + (hi - lo) / 2))
        (λ s. rw (halving_down times lo hi t s) (halved times lo (lo + (hi - lo) / 2) (omega (arith, pow-succ' 2 times)) (omega arith) (omega arith) p s))
        (λ s. rw (halving_up times lo hi t s) (halved times (lo + (hi - lo) / 2) hi (omega (arith, pow-succ' 2 times)) (omega arith) l s q)))
        (λ t. rw (halving_ends times lo hi t) (record { passes = q; fails = λ k kh. earlier k lo (omega arith) (omega arith) p }))

    -- what doubling found
    abbrev Found : Option ℕ → Type 0
    Found (Some hi) = (test hi ≡ true) × ((0 < hi) × (hi ≤ 2147483648))
    Found None = test 2147483648 ≡ false

    doubled : (tries hi : ℕ) → 0 < hi → hi * 2 ^ tries ≡ 2147483648 → Found (doubling test (suc tries) hi)
    unfolding doubling
    doubled zero hi h e =
        let n : hi ≡ 2147483648 = omega (arith, pow-zero 2, ap (λ (x : ℕ). hi * x) (pow-zero 2)) in
        cases (test hi) (λ t. rw (doubling_ends zero hi t) (t, (h, omega arith))) (λ t. rw (doubling_more zero hi t, doubling) (sym (ap test n) ∙ t))
    doubled (suc tries) hi h e =
        let m : hi * 2 * 2 ^ tries ≡ 2147483648 = omega (arith, ap (λ (x : ℕ). hi * x) (pow-succ' 2 tries)) in
        let l : hi ≤ hi * 2 ^ suc tries = le-mul_of_pos_right hi (pow_pos (suc tries)) in
        cases (test hi) (λ t. rw (doubling_ends (suc tries) hi t) (t, (h, omega arith))) (λ t. rw (doubling_more (suc tries) hi t) (doubled tries (hi * 2) (omega arith) m))

    first : Found (doubling test 32 1)
    first = doubled 31 1 (omega arith) refl

    least_within : (upper : Option ℕ) → Found upper → test 0 ≡ false → test 2147483648 ≡ true → Least test (within test upper)
    least_within (Some hi) k p q = halved 32 0 hi (omega (arith, k.1.1)) k.1.0 k.1.1 p k.0
    least_within None k p q = not_both (test 2147483648) q k

    none_within : (upper : Option ℕ) → Found upper → test 2147483648 ≡ false → within test upper ≡ 4294967295
    none_within (Some hi) k p = not_both (test 2147483648) (stays hi 2147483648 k.1.1 (omega arith) k.0) p
    none_within None k p = refl

    pub searched_least : test 0 ≡ false → test 2147483648 ≡ true → Least test (searched test)
    unfolding searched
    searched_least p q = least_within (doubling test 32 1) first p q

    pub searched_none : test 2147483648 ≡ false → searched test ≡ 4294967295
    unfolding searched
    searched_none p = none_within (doubling test 32 1) first p
