-- Lists by their entries. Words stored from a place on: one list behind another is stored as the two, the second where the first ends. And four words read from a place on.
use mathlib.Core.Path.{◌≡◌, refl, sym, ap, ◌∙◌}
use mathlib.Core.List.{List, [], ◌∷◌, ◌++◌}
use Prim.Native.Nat.{ℕ, zero, suc, ◌+◌, ◌≤◌, ◌<◌}
use native.Mathlib.Nat.{add-zero, zero-add, add-suc, suc-add}
use native.Mathlib.Numerals.{add-one, add-two, add-three, add-four}
use native.Mathlib.Omega.{arith}
use lib.ListN.{length, drop, get_or, set}
use lib.Seq.{sets, drop-cons, ext_get_or}
use Rattle.numbers.specs.Lists.{entries}

-- ---- entries

module _ {A : Type 0} (f : ℕ → A) where
  pub entries_length : (k n : ℕ) → length (entries f k n) ≡ n
  unfolding entries
  entries_length k zero = refl
  entries_length k (suc n) = ap suc (entries_length (suc k) n)

  entries_at : (d : A) (k n j : ℕ) → j < n → get_or (entries f k n) j d ≡ f (k + j)
  unfolding entries
  entries_at d k zero j h = absurd (omega arith)
  entries_at d k (suc n) zero h = ap f (sym (add-zero k))
  entries_at d k (suc n) (suc j) h = entries_at d (suc k) n j (omega arith) ∙ ap f (suc-add k j ∙ sym (add-suc k j))

  -- a list is the entries from 0 on that stand in it
  pub are_entries : (d : A) (xs : List A) → ((j : ℕ) → j < length xs → get_or xs j d ≡ f j) → xs ≡ entries f 0 (length xs)
  are_entries d xs h =
      ext_get_or d xs (entries f 0 (length xs)) (sym (entries_length 0 (length xs)))
      (λ j l. h j l ∙ sym (entries_at d 0 (length xs) j l ∙ ap f (zero-add j)))

-- ---- words

pub sets_append : (out : List ℕ) (at : ℕ) (vs ws : List ℕ) → sets out at (vs ++ ws) ≡ sets (sets out at vs) (at + length vs) ws
sets_append out at [] ws = ap (λ (n : ℕ). sets out n ws) (sym (add-zero at))
sets_append out at (v ∷ vs) ws = sets_append (set out at v) (suc at) vs ws ∙ ap (λ (n : ℕ). sets (sets (set out at v) (suc at) vs) n ws) (suc-add at (length vs) ∙ sym (add-suc at (length vs)))

-- the four words from i on, and the rest
pub drop_four : (l : List ℕ) (i : ℕ) → i + 4 ≤ length l
    → drop i l ≡ get_or l i 0 ∷ get_or l (i + 1) 0 ∷ get_or l (i + 2) 0 ∷ get_or l (i + 3) 0 ∷ drop (i + 4) l
drop_four l i h =
    rw (add-one, add-two, add-three, add-four)
    (drop-cons l i 0 (omega arith) ∙ ap (λ (t : List ℕ). get_or l i 0 ∷ t)
    (drop-cons l (suc i) 0 (omega arith) ∙ ap (λ (t : List ℕ). get_or l (suc i) 0 ∷ t)
    (drop-cons l (suc (suc i)) 0 (omega arith) ∙ ap (λ (t : List ℕ). get_or l (suc (suc i)) 0 ∷ t)
    (drop-cons l (suc (suc (suc i))) 0 (omega arith)))))
