-- The first part of a text is its bytes up to the first mark. The first word of a line is its first run of inked bytes.
use mathlib.Core.Path.{◌≡◌, refl, ap, ◌∙◌}
use mathlib.Core.Bool.{Bool, false, not}
use mathlib.Core.List.{List, [], ◌∷◌}
use Prim.Native.Nat.{ℕ, suc, ◌<◌}
use native.Mathlib.Omega.{arith}
use lib.ListN.{length, take, drop}
use lib.Seq.{length-take-le}
use borrow.Table.Steps.{cases}
use Rattle.splits.specs.Splits.{longer, run, in_front, split, filled}
use Rattle.splits.proofs.Runs.{run_short}

module _ (mark : ℕ → Bool) where
  -- ---- the first part

  pub split_first : (text : List ℕ) → 0 < length text
      → split mark text ≡ take (run (λ byte. not (mark byte)) text) text ∷ split mark (drop (suc (run (λ byte. not (mark byte)) text)) text)
  unfolding split run longer in_front
  split_first [] h = let z : ⊥ = omega arith in absurd z
  split_first (byte ∷ []) h = cases (mark byte) (λ e. rw e) (λ e. rw e)
  split_first (byte ∷ (next ∷ rest)) h = cases (mark byte) (λ e. rw e) (λ e. rw e (ap (in_front false byte) (split_first (next ∷ rest) (omega arith))))

  -- ---- words

  -- marks in front part nothing
  pub skip : (line : List ℕ) → filled (split mark line) ≡ filled (split mark (drop (run mark line) line))
  unfolding split run longer in_front filled
  skip [] = refl
  skip (byte ∷ rest) = cases (mark byte) (λ e. rw e (skip rest)) (λ e. rw e (rw e))

  -- where marks in front do not reach the end, a word begins
  pub begins : (line : List ℕ) → run mark line < length line → 0 < run (λ byte. not (mark byte)) (drop (run mark line) line)
  unfolding run longer
  begins [] h = let z : ⊥ = omega arith in absurd z
  begins (byte ∷ rest) h = cases (mark byte) (λ e. let m = rw e at h in rw e (begins rest (omega arith))) (λ e. rw e (rw e (omega arith)))

  full : (first : List ℕ) (parts : List (List ℕ)) → 0 < length first → filled (first ∷ parts) ≡ first ∷ filled parts
  unfolding filled
  full [] parts h = let z : ⊥ = omega arith in absurd z
  full (byte ∷ rest) parts h = refl

  -- the mark behind a word parts nothing
  behind : (line : List ℕ)
      → filled (split mark (drop (suc (run (λ byte. not (mark byte)) line)) line)) ≡ filled (split mark (drop (run (λ byte. not (mark byte)) line) line))
  unfolding split run longer in_front filled
  behind [] = refl
  behind (byte ∷ rest) = cases (mark byte) (λ e. rw e (rw e)) (λ e. rw e (behind rest))

  pub word_first : (line : List ℕ) → 0 < run (λ byte. not (mark byte)) line
      → filled (split mark line) ≡ take (run (λ byte. not (mark byte)) line) line ∷ filled (split mark (drop (run (λ byte. not (mark byte)) line) line))
  word_first line h =
      let n = run (λ byte. not (mark byte)) line in
      let s = run_short (λ byte. not (mark byte)) line in
      let l : length (take n line) ≡ n = length-take-le n line s in
      ap filled (split_first line (omega arith)) ∙ full (take n line) (split mark (drop (suc n) line)) (omega arith)
      ∙ ap (λ (parts : List (List ℕ)). take n line ∷ parts) (behind line)
