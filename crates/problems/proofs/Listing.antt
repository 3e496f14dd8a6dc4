-- Three lists of one length are read point by point.
use mathlib.Core.Path.{◌≡◌, refl, ap, sym, ◌∙◌}
use mathlib.Core.List.{List, [], ◌∷◌, ◌++◌}
use Prim.Native.Nat.{ℕ, zero, suc, ◌+◌, ◌≤◌, ◌<◌}
use native.Mathlib.Nat.{not-suc-le-zero, le_of_suc-le-suc}
use native.Mathlib.Numerals.{add-one}
use native.Mathlib.Omega.{arith}
use lib.IntN.{ℤ}
use lib.ListN.{length, get_or, drop, drop_of_length-le}
use Rattle.beats.specs.declared.Beat.{Beat}
use Rattle.tempo.specs.Answers.{Walkable}
use Rattle.problems.specs.Problems.{Listed, listed, tempo_problems}
use Rattle.problems.specs.Passes.{listed_at, beat_at, tempo_at, tempo_from}
use Rattle.problems.proofs.Wholes.{tempo_whole}

pub listed_length : (nums : List ℤ) (dens tempos : List ℕ) → length dens ≡ length nums → length tempos ≡ length nums → length (listed nums dens tempos) ≡ length nums
unfolding listed
listed_length [] dens tempos d t = refl
listed_length (num ∷ nums) [] tempos d t = d
listed_length (num ∷ nums) (den ∷ dens) [] d t = t
listed_length (num ∷ nums) (den ∷ dens) (bits ∷ tempos) d t = ap suc (listed_length nums dens tempos (omega arith) (omega arith))

abbrev pub listed_point : List ℤ → List ℕ → List ℕ → ℕ → Listed
listed_point nums dens tempos i = listed_at (beat_at nums dens i) (get_or tempos i 0)

pub listed_next : (nums : List ℤ) (dens tempos : List ℕ) → length dens ≡ length nums → length tempos ≡ length nums → (i : ℕ) → i < length nums
    → drop i (listed nums dens tempos) ≡ listed_point nums dens tempos i ∷ drop (suc i) (listed nums dens tempos)
unfolding listed
listed_next [] dens tempos d t i h = absurd (not-suc-le-zero h)
listed_next (num ∷ nums) [] tempos d t i h = let e : ◌≡◌ {A = ℕ} 0 (suc (length nums)) = d in absurd (omega arith)
listed_next (num ∷ nums) (den ∷ dens) [] d t i h = let e : ◌≡◌ {A = ℕ} 0 (suc (length nums)) = t in absurd (omega arith)
listed_next (num ∷ nums) (den ∷ dens) (bits ∷ tempos) d t zero h = refl
listed_next (num ∷ nums) (den ∷ dens) (bits ∷ tempos) d t (suc i) h = listed_next nums dens tempos (omega arith) (omega arith) i (le_of_suc-le-suc h)

-- the records of a tempo map, point by point
module _ (nums : List ℤ) (dens tempos : List ℕ) (map : Walkable nums dens tempos) where
  pub tempo_all : (before : Beat) → tempo_from (length nums) 0 before (listed nums dens tempos) ≡ tempo_problems (listed nums dens tempos)
  tempo_all before =
      ap (λ (n : ℕ). tempo_from n 0 before (listed nums dens tempos)) (sym (listed_length nums dens tempos map.even.even_dens map.even.even_tempos))
      ∙ tempo_whole before (listed nums dens tempos)

  pub tempo_next : (n i : ℕ) (before : Beat) → i < length nums
      → tempo_from n i before (drop i (listed nums dens tempos))
      ≡ tempo_at n i before (listed_point nums dens tempos i) ++ tempo_from n (i + 1) (beat_at nums dens i) (drop (i + 1) (listed nums dens tempos))
  unfolding tempo_from
  tempo_next n i before h = rw add-one (ap (tempo_from n i before) (listed_next nums dens tempos map.even.even_dens map.even.even_tempos i h))

  pub tempo_end : (n i : ℕ) (before : Beat) → length nums ≤ i → tempo_from n i before (drop i (listed nums dens tempos)) ≡ []
  unfolding tempo_from
  tempo_end n i before h = ap (tempo_from n i before) (drop_of_length-le (listed nums dens tempos) {i = i} (omega (arith, listed_length nums dens tempos map.even.even_dens map.even.even_tempos)))
