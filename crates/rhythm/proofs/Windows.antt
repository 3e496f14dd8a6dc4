-- The notes of a window, one note at a time.
use Rattle.std.proofs.Common.{◌≡◌, ℕ, ◌+◌, ◌-◌, ◌<◌, ◌≤◌, Bool, true, false, ◌&&◌, ltb, leb, List, [], ◌∷◌, refl, ap, arith, le-ltb, lt-ltb, le-leb}
use Rattle.std.proofs.Math.Bool.{and-false}
use borrow.Author.Tests.{lt-leb}
use Rattle.notes.specs.declared.Note.{Note}
use Rattle.notes.specs.Notes.{placed}
use Rattle.rhythm.specs.Cuts.{window}

module _ (start len : ℕ) (n : Note) (rest : List Note) where
  by_test : (b : Bool) → leb start n.step && ltb n.step (start + len) ≡ b → window start len (n ∷ rest) ≡ elim b [ true ↦ placed (n.step - start) n ∷ window start len rest | false ↦ window start len rest ]
  unfolding window
  by_test b q = ap (λ (t : Bool). elim t [ true ↦ placed (n.step - start) n ∷ window start len rest | false ↦ window start len rest ]) q

  pub inside : start ≤ n.step → n.step - start < len → window start len (n ∷ rest) ≡ placed (n.step - start) n ∷ window start len rest
  inside h g =
      let f : n.step < start + len = omega arith in
      by_test true (simp (le-leb _ _ h, lt-ltb _ _ f))

  pub behind : start ≤ n.step → len ≤ n.step - start → window start len (n ∷ rest) ≡ window start len rest
  behind h g =
      let f : start + len ≤ n.step = omega arith in
      by_test false (simp (le-ltb _ _ f, and-false))

  pub before : n.step < start → window start len (n ∷ rest) ≡ window start len rest
  before h = by_test false (simp (lt-leb _ _ h))

pub win_none : (start len : ℕ) → window start len [] ≡ []
unfolding window
win_none start len = refl
