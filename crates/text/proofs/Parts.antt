-- The parts of a signed number's and of a beat's text, and how long they are at most.
use mathlib.Core.Path.{◌≡◌}
use mathlib.Core.Bool.{true, false, cond}
use mathlib.Core.List.{[], ◌∷◌, ◌++◌, append-nil}
use Prim.Native.Nat.{ℕ, zero, suc, ◌/◌, ◌^◌, ◌≤◌, ◌<◌}
use native.Mathlib.Nat.{pow-suc}
use native.Mathlib.Omega.{arith}
use borrow.Author.Tests.{eq-eqb, ne_eqb}
use lib.Dec.{eqb}
use borrow.Author.Tests.{ltb-true}
use lib.Signed.{lt_z}
use lib.IntN.{ℤ, pos, negsuc, nat_abs}
use lib.ListN.{length, length-append}
use mir.Syntax.{w64}
use mir.Val.{SFits}
use Rattle.numbers.proofs.Laws.{by_order, cases}
use Rattle.beats.specs.declared.Beat.{Beat}
use Rattle.text.specs.Texts.{decimal, signed_text, beat_text}
use Rattle.text.specs.declared.page.Page.{Page}
use Rattle.text.specs.Pages.{Room}
use Rattle.text.proofs.Pages.{room_first}
use Rattle.text.proofs.Puts.{digit_length, digits_length}

-- the text of a number, by the sign and the magnitude that are worked out of its bits
pub below_zero : (x z : ℤ) (size : ℕ) → z ≡ x → lt_z z (pos 0) ≡ true → size ≡ nat_abs z → signed_text x ≡ 45 ∷ decimal size
unfolding signed_text
below_zero (pos n) z size e t m = let t = rw e at t in absurd (omega (arith, ltb-true n 0 t))
below_zero (negsuc n) z size e t m = rw (m, e)

pub from_zero : (x z : ℤ) (size : ℕ) → z ≡ x → lt_z z (pos 0) ≡ false → size ≡ nat_abs z → signed_text x ≡ decimal size
unfolding signed_text
from_zero (pos n) z size e t m = rw (m, e)
from_zero (negsuc n) z size e t m = let t = rw e at t in cc

module _ (b : Beat) where
  pub beat_whole : b.den ≡ 1 → signed_text b.num ≡ beat_text b
  unfolding beat_text
  beat_whole e = simp (eq-eqb b.den 1 e, append-nil)

  pub beat_parts : (b.den ≡ 1 → ⊥) → signed_text b.num ++ (47 ∷ decimal b.den) ≡ beat_text b
  unfolding beat_text
  beat_parts n = simp (ne_eqb b.den 1 n)

  -- a number's text is the front of the beat's
  pub beat_front : (z : ℤ) (page : Page) → z ≡ b.num → Room (beat_text b) page → Room (signed_text z) page
  unfolding beat_text
  beat_front z page e room = rw e (room_first (signed_text b.num) (cond (eqb b.den 1) [] (47 ∷ decimal b.den)) page room)

-- ---- the most bytes

-- a number below 10 ^ (k + 1) has at most k + 1 digits
few_digits : (k n : ℕ) → n < 10 ^ suc k → length (decimal n) ≤ suc k
few_digits zero n h = let e = digit_length n h in omega arith
few_digits (suc k) n h =
    by_order n 10 (λ l. omega (arith, digit_length n l))
    (λ l.
    let m = pow-suc 10 (suc k) in
    omega (arith, digits_length n l, few_digits k (n / 10) (omega arith)))

pub digits64 : (n : ℕ) → n < 2 ^ 64 → length (decimal n) ≤ 20
digits64 n h = few_digits 19 n (omega arith)

pub digits32 : (n : ℕ) → n < 2 ^ 32 → length (decimal n) ≤ 10
digits32 n h = few_digits 9 n (omega arith)

pub signed_short : (x : ℤ) → SFits w64 x → length (signed_text x) ≤ 20
unfolding signed_text
signed_short (pos n) f = let d = few_digits 18 n (omega (arith, f.sfits)) in omega arith
signed_short (negsuc n) f = let d = few_digits 18 (suc n) (omega (arith, f.sfits)) in omega arith

pub beat_short : (b : Beat) → SFits w64 b.num → b.den < 2 ^ 32 → length (beat_text b) ≤ 31
unfolding beat_text
beat_short b f h =
    let s = signed_short b.num f in
    let d = digits32 b.den h in
    cases (eqb b.den 1) (λ e. simp (e, length-append) (omega arith)) (λ e. simp (e, length-append) (omega arith))
