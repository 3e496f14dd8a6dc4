-- The test of the grid: one note of the walk, and the bars before it.
use Rattle.std.proofs.Common.{◌≡◌, ℕ, suc, ◌+◌, ◌*◌, ◌%◌, Bool, true, false, eqb, List, [], ◌∷◌, refl, ap, ◌∙◌, add-one, eq-eqb, ne_eqb}
use Rattle.notes.specs.declared.Note.{Note}
use Rattle.rhythm.specs.Cuts.{note_grid, grid_of}

-- ---- one note

module _ (num den place : ℕ) (n : Note) (rest : List Note) where
  tested : (b d : Bool) → eqb (n.step * num % den) 0 ≡ b → eqb (n.len * num % den) 0 ≡ d
      → note_grid num den place (n ∷ rest) ≡ elim b [ true ↦ elim d [ true ↦ note_grid num den (suc place) rest | false ↦ 2 ∷ place ∷ n.len ∷ [] ] | false ↦ 1 ∷ place ∷ n.step ∷ [] ]
  unfolding note_grid
  tested b d p q =
      λ i. elim (p i) [ true ↦ elim (q i) [ true ↦ note_grid num den (suc place) rest | false ↦ 2 ∷ place ∷ n.len ∷ [] ] | false ↦ 1 ∷ place ∷ n.step ∷ [] ]

  pub step_off : (n.step * num % den ≡ 0 → ⊥) → note_grid num den place (n ∷ rest) ≡ 1 ∷ place ∷ n.step ∷ []
  step_off h = tested false _ (ne_eqb _ _ h) refl

  pub len_off : n.step * num % den ≡ 0 → (n.len * num % den ≡ 0 → ⊥) → note_grid num den place (n ∷ rest) ≡ 2 ∷ place ∷ n.len ∷ []
  len_off h g = tested true false (eq-eqb _ _ h) (ne_eqb _ _ g)

  pub on : n.step * num % den ≡ 0 → n.len * num % den ≡ 0 → note_grid num den place (n ∷ rest) ≡ note_grid num den (place + 1) rest
  on h g = tested true true (eq-eqb _ _ h) (eq-eqb _ _ g) ∙ rw add-one

pub all_on : (num den place : ℕ) → note_grid num den place [] ≡ []
unfolding note_grid
all_on num den place = refl

-- ---- the bars

module _ (num den bars : ℕ) (ns : List Note) where
  bars_tested : (b : Bool) → eqb (bars * num % den) 0 ≡ b → grid_of num den bars ns ≡ elim b [ true ↦ note_grid num den 0 ns | false ↦ 0 ∷ 0 ∷ bars ∷ [] ]
  unfolding grid_of
  bars_tested b q = ap (λ (t : Bool). elim t [ true ↦ note_grid num den 0 ns | false ↦ 0 ∷ 0 ∷ bars ∷ [] ]) q

  pub bars_off : (bars * num % den ≡ 0 → ⊥) → grid_of num den bars ns ≡ 0 ∷ 0 ∷ bars ∷ []
  bars_off h = bars_tested false (ne_eqb _ _ h)

  pub bars_on : bars * num % den ≡ 0 → grid_of num den bars ns ≡ note_grid num den 0 ns
  bars_on h = bars_tested true (eq-eqb _ _ h)
