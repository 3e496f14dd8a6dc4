-- The place that std's search finds is where a run ends.
use Rattle.std.proofs.Common.{◌≡◌, ℕ, ◌+◌, ◌-◌, ◌≤◌, Bool, true, false, not, cond, ltb, List, [], ◌∷◌, length, drop, Option, Some, None, position, refl, sym, ap, ◌∙◌, arith, length-drop, ltb-false}
use borrow.Table.Steps.{cases}
use Rattle.std.specs.List.{position_or_len}
use Rattle.splits.specs.Splits.{run, past}
use Rattle.splits.proofs.Runs.{run_more, run_none, run_nil, run_short}

pub not_not : (b : Bool) → not (not b) ≡ b
not_not true = refl
not_not false = refl

module _ (kind test : ℕ → Bool) (opposite : (byte : ℕ) → kind byte ≡ not (test byte)) where
  run_is : (text : List ℕ) → position_or_len test text ≡ run kind text
  run_is [] = sym (run_nil kind)
  run_is (byte ∷ rest) =
      cases (test byte) (λ e. rw e (sym (run_none kind byte rest (opposite byte ∙ ap not e))))
      (λ e. rw e (omega (arith, run_is rest, run_more kind byte rest (opposite byte ∙ ap not e))))

  -- what a search of the bytes from a place on answers
  module _ (text : List ℕ) (from : ℕ) (room : from ≤ length text) (r : Option ℕ) (is : r ≡ position test (drop from text)) where
    size : length (drop from text) ≡ length text - from
    size = length-drop from text

    pub at_some : (n : ℕ) → r ≡ Some n → (from + n ≡ past kind text from) × (from ≤ from + n) × (from + n ≤ length text)
    unfolding past
    at_some n e = go (ltb (position_or_len test (drop from text)) (length (drop from text))) (sym e ∙ is)
      where
        go : (b : Bool) → Some n ≡ cond b (Some (position_or_len test (drop from text))) None → (from + n ≡ from + run kind (drop from text)) × (from ≤ from + n) × (from + n ≤ length text)
        go true q =
            let m : n ≡ position_or_len test (drop from text) = cc in
            let s = run_short kind (drop from text) in
            let k = run_is (drop from text) in
            (omega arith, omega arith, omega (arith, size))
        go false q = let z : ◌≡◌ {A = ℕ} 0 1 = cc in absurd (omega arith)

    pub at_none : r ≡ None → (length text ≡ past kind text from) × (from ≤ length text) × (length text ≤ length text)
    unfolding past
    at_none e = go (ltb (position_or_len test (drop from text)) (length (drop from text))) refl (sym e ∙ is)
      where
        go : (b : Bool) → ltb (position_or_len test (drop from text)) (length (drop from text)) ≡ b → None ≡ cond b (Some (position_or_len test (drop from text))) None
            → (length text ≡ from + run kind (drop from text)) × (from ≤ length text) × (length text ≤ length text)
        go true t q = let z : ◌≡◌ {A = ℕ} 0 1 = cc in absurd (omega arith)
        go false t q =
            let s = run_short kind (drop from text) in
            let k = run_is (drop from text) in
            (omega (arith, size, ltb-false (position_or_len test (drop from text)) (length (drop from text)) t), omega arith, omega arith)
