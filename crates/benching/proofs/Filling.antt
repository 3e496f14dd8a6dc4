-- A loop that stores the words of one point after another, from the front of an array on. Assumes nothing.
use Rattle.std.proofs.Common.{◌≡◌, ℕ, suc, ◌+◌, ◌*◌, List, [], ◌∷◌, ◌++◌, length, set, sym, refl, ap, ◌∙◌, subst, append_assoc, append-nil, add-zero, add-suc, suc-add, zero-add, add-one, arith, length-append, drop_of_length-le}
use lib.Seq.{sets, sets-eq}
use Rattle.benching.specs.Maps.{points}

module _ {A : Type 0} where
  -- a word stored behind others
  behind : (xs : List A) (i : ℕ) (front : List A) (v : A) → sets xs i (front ++ (v ∷ [])) ≡ set (sets xs i front) (i + length front) v
  behind xs i [] v = ap (λ (n : ℕ). set xs n v) (sym (add-zero i))
  behind xs i (u ∷ front) v =
      behind (set xs i u) (suc i) front v ∙ ap (λ (n : ℕ). set (sets (set xs i u) (suc i) front) n v) (suc-add i (length front) ∙ sym (add-suc i (length front)))

  -- of an array that was xs₀, so many words from the front on are these
  pub record Filled (xs₀ xs : List A) (i : ℕ) (front : List A) : Type 0 where
    pub count : length front ≡ i
    pub stored : xs ≡ sets xs₀ 0 front

  more : {xs₀ xs front : List A} {i : ℕ} (j : ℕ) (v : A) → j ≡ i + 1 → Filled xs₀ xs i front → Filled xs₀ (set xs i v) j (front ++ (v ∷ []))
  more {xs₀} {xs} {front} {i} j v e F = record {
    count = length-append front (v ∷ []) ∙ ap (λ (n : ℕ). n + 1) F.count ∙ sym e;
    stored = ap (λ (l : List A). set l i v) F.stored ∙ ap (λ (n : ℕ). set (sets xs₀ 0 front) n v) (sym (zero-add (length front) ∙ F.count)) ∙ sym (behind xs₀ 0 front v);
  }

  module _ (at : ℕ → List A) where
    pub none : (xs : List A) → Filled xs xs 0 (points at 0)
    unfolding points
    none xs = record { count = refl; stored = refl }

    next : (k : ℕ) → points at k ++ at k ≡ points at (k + 1)
    unfolding points
    next k = ap (points at) (sym (add-one k))

    module _ (xs₀ xs : List A) (k : ℕ) where
      pub one_word : (v : A) → v ∷ [] ≡ at k → Filled xs₀ xs k (points at k) → Filled xs₀ (set xs k v) (k + 1) (points at (k + 1))
      one_word v e F = subst (Filled xs₀ (set xs k v) (k + 1)) (ap (λ (l : List A). points at k ++ l) e ∙ next k) (more (k + 1) v refl F)

      pub three_words : (u v w : A) → u ∷ v ∷ w ∷ [] ≡ at k → Filled xs₀ xs (3 * k) (points at k)
          → Filled xs₀ (set (set (set xs (3 * k) u) (3 * k + 1) v) (3 * k + 2) w) (3 * (k + 1)) (points at (k + 1))
      three_words u v w e F =
          subst (Filled xs₀ (set (set (set xs (3 * k) u) (3 * k + 1) v) (3 * k + 2) w) (3 * (k + 1))) ((simp append_assoc) ∙ ap (λ (l : List A). points at k ++ l) e ∙ next k)
          (more (3 * (k + 1)) w (omega arith) (more (3 * k + 2) v (omega arith) (more (3 * k + 1) u refl F)))

    -- when the last point is stored, in an array that is lent
    pub lent : (xs₀ xs : List A) (k i last : ℕ) → k ≡ last → Filled xs₀ xs i (points at k) → xs ≡ sets xs₀ 0 (points at last)
    lent xs₀ xs k i last e F = F.stored ∙ ap (λ (n : ℕ). sets xs₀ 0 (points at n)) e

    -- and in one that has no more words
    pub whole : (xs₀ xs : List A) (k i last : ℕ) → length xs₀ ≡ i → k ≡ last → Filled xs₀ xs i (points at k) → xs ≡ points at last
    whole xs₀ xs k i last long e F =
        F.stored
        ∙ sets-eq (points at k) xs₀ 0 (omega (arith, F.count))
        ∙ ap (λ (l : List A). points at k ++ l) (drop_of_length-le xs₀ {i = 0 + length (points at k)} (omega (arith, F.count)))
        ∙ append-nil (points at k)
        ∙ ap (points at) e
