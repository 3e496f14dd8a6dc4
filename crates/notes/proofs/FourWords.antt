-- Laws on lists of words that several proofs cite.
use Rattle.std.proofs.Common.{List, [], ◌∷◌, ◌++◌, append_assoc, ◌≡◌, ◌∙◌, ℕ, ◌+◌, ◌≤◌, add-one, length, take, drop, set}
use Rattle.std.proofs.Math.Numerals.{add-two, add-three}
use Rattle.std.proofs.Math.Seq.{sets-eq}

-- four stores in a row
pub put_four : (l : List ℕ) (i : ℕ) → i + 4 ≤ length l → (a b c d : ℕ)
    → set (set (set (set l i a) (i + 1) b) (i + 2) c) (i + 3) d ≡ take i l ++ (a ∷ b ∷ c ∷ d ∷ drop (i + 4) l)
put_four l i h a b c d =
    rw (add-one, add-two, add-three) (sets-eq (a ∷ b ∷ c ∷ d ∷ []) l i h ∙ append_assoc (take i l) _ _)
