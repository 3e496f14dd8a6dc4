-- A run goes on with a byte of its kind and stops at any other, and never goes past the end.
use mathlib.Core.Path.{◌≡◌, refl, ap}
use mathlib.Core.Bool.{Bool, true, false, not}
use mathlib.Core.List.{List, [], ◌∷◌, ◌++◌}
use Prim.Native.Nat.{ℕ, suc, ◌+◌, ◌≤◌}
use native.Mathlib.Omega.{arith}
use borrow.Author.Tests.{eq-eqb, ne_eqb}
use borrow.Table.Steps.{cases}
use lib.ListN.{length}
use Rattle.splits.specs.Splits.{other, longer, run, past}

module _ (kind : ℕ → Bool) where
  -- ---- by the byte in front

  pub run_more : (byte : ℕ) (rest : List ℕ) → kind byte ≡ true → run kind (byte ∷ rest) ≡ suc (run kind rest)
  unfolding run longer
  run_more byte rest e = rw e

  pub run_none : (byte : ℕ) (rest : List ℕ) → kind byte ≡ false → run kind (byte ∷ rest) ≡ 0
  unfolding run longer
  run_none byte rest e = rw e

  pub run_short : (text : List ℕ) → run kind text ≤ length text
  unfolding run longer
  run_short [] = omega arith
  run_short (byte ∷ rest) = go (kind byte) (run_short rest)
    where
      go : (b : Bool) → run kind rest ≤ length rest → longer b (run kind rest) ≤ suc (length rest)
      go true h = omega arith
      go false h = omega arith

  pub run_nil : run kind [] ≡ 0
  unfolding run
  run_nil = refl

  -- a run over all of the front goes on behind it
  pub run_append : (front back : List ℕ) → run kind front ≡ length front → run kind (front ++ back) ≡ length front + run kind back
  run_append [] back e = omega arith
  run_append (byte ∷ front) back e =
      cases (kind byte)
      (λ t.
      let rest = run_append front back (omega (arith, run_more byte front t)) in
      omega (arith, run_more byte (front ++ back) t))
      (λ t. let z : ⊥ = omega (arith, run_none byte front t) in absurd z)

  pub past_front : (text : List ℕ) → past kind text 0 ≡ run kind text
  unfolding past
  past_front text = omega arith

-- ---- up to a mark

module _ (mark byte : ℕ) (rest : List ℕ) where
  pub at_mark : byte ≡ mark → run (other mark) (byte ∷ rest) ≡ 0
  at_mark e = run_none (other mark) byte rest (ap not (eq-eqb byte mark e))

  pub before_mark : (byte ≡ mark → ⊥) → run (other mark) (byte ∷ rest) ≡ suc (run (other mark) rest)
  before_mark n = run_more (other mark) byte rest (ap not (ne_eqb byte mark n))
