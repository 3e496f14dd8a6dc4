-- Ascending lines are in order at any two places, and a walk knows of the whole list by what is left.
use Rattle.std.proofs.Common.{◌≡◌, refl, sym, ap, ◌∙◌, Bool, true, false, cond, ◌&&◌, List, [], ◌∷◌, ℕ, zero, suc, ◌+◌, ◌≤◌, ◌<◌, le_trans, le_of_suc-le-suc, not-suc-le-zero, add-zero, add-one, arith, leb-true, le-leb, ltb-true, ltb-false, ne_eqb, leb, ltb, eqb, length, get_or, drop, drop_of_length-le, drop-cons}
use Rattle.std.proofs.lemmas.Bool.{lt-leb}
use mathlib.Core.Bool.{and-true, and-false}
use Rattle.numbers.proofs.Laws.{both}
use Rattle.lines.specs.Lines.{ascends_from}

-- the first line, and the others
pub up_step : (low line : ℕ) (rest : List ℕ) → ascends_from low (line ∷ rest) ≡ true → (low ≤ line) × (ascends_from line rest ≡ true)
unfolding ascends_from
up_step low line rest h = let s = both (leb low line) (ascends_from line rest) h in (leb-true low line s.0, s.1)

least : (low : ℕ) (lines : List ℕ) → ascends_from low lines ≡ true → (q : ℕ) → q < length lines → low ≤ get_or lines q 0
least low [] h q l = absurd (not-suc-le-zero l)
least low (line ∷ rest) h zero l = (up_step low line rest h).0
least low (line ∷ rest) h (suc q) l = let s = up_step low line rest h in le_trans s.0 (least line rest s.1 q (le_of_suc-le-suc l))

pub ordered : (low : ℕ) (lines : List ℕ) → ascends_from low lines ≡ true → (p q : ℕ) → p ≤ q → q < length lines → get_or lines p 0 ≤ get_or lines q 0
ordered low [] h p q o l = absurd (not-suc-le-zero l)
ordered low (line ∷ rest) h zero zero o l = omega arith
ordered low (line ∷ rest) h zero (suc q) o l = least line rest (up_step low line rest h).1 q (le_of_suc-le-suc l)
ordered low (line ∷ rest) h (suc p) zero o l = absurd (not-suc-le-zero o)
ordered low (line ∷ rest) h (suc p) (suc q) o l = ordered line rest (up_step low line rest h).1 p q (le_of_suc-le-suc o) (le_of_suc-le-suc l)

-- ---- a walk that stands at a place, behind a line `low`

module _ (lines : List ℕ) (low place : ℕ) where
  here : place < length lines → ascends_from low (drop place lines) ≡ leb low (get_or lines place 0) && ascends_from (get_or lines place 0) (drop (place + 1) lines)
  unfolding ascends_from
  here h = rw (add-one place) (ap (ascends_from low) (drop-cons lines place 0 h))

  descends : place < length lines → get_or lines place 0 < low → ascends_from low (drop place lines) ≡ false
  descends h k = here h ∙ ap (λ (t : Bool). t && ascends_from (get_or lines place 0) (drop (place + 1) lines)) (lt-leb low (get_or lines place 0) k)

  goes_on : place < length lines → low ≤ get_or lines place 0 → ascends_from (get_or lines place 0) (drop (place + 1) lines) ≡ ascends_from low (drop place lines)
  goes_on h k = sym (here h ∙ ap (λ (t : Bool). t && ascends_from (get_or lines place 0) (drop (place + 1) lines)) (le-leb low (get_or lines place 0) k))

  -- so many falls before the line, and the line's own: all ascend where there is none, and none follows
  by_fall : (falls : ℕ) → place < length lines → (fall : Bool) → ltb (get_or lines place 0) low ≡ fall →
      eqb (falls + cond fall 1 0) 0 && ascends_from (get_or lines place 0) (drop (place + 1) lines) ≡ eqb falls 0 && ascends_from low (drop place lines)
  by_fall falls h true e =
      ap (λ (t : Bool). t && ascends_from (get_or lines place 0) (drop (place + 1) lines)) (ne_eqb (falls + 1) 0 (λ q. omega (arith, q)))
      ∙ sym (ap (λ (t : Bool). eqb falls 0 && t) (descends h (ltb-true _ _ e)) ∙ and-false (eqb falls 0))
  by_fall falls h false e =
      ap (λ (n : ℕ). eqb n 0 && ascends_from (get_or lines place 0) (drop (place + 1) lines)) (add-zero falls)
      ∙ ap (λ (t : Bool). eqb falls 0 && t) (goes_on h (ltb-false _ _ e))

  pub one_more : (falls more : ℕ) → place < length lines → more ≡ cond (ltb (get_or lines place 0) low) 1 0 →
      eqb (falls + more) 0 && ascends_from (get_or lines place 0) (drop (place + 1) lines) ≡ eqb falls 0 && ascends_from low (drop place lines)
  one_more falls more h is =
      ap (λ (n : ℕ). eqb (falls + n) 0 && ascends_from (get_or lines place 0) (drop (place + 1) lines)) is ∙ by_fall falls h (ltb (get_or lines place 0) low) refl

  pub ended : (falls : ℕ) → length lines ≤ place → eqb falls 0 && ascends_from low (drop place lines) ≡ eqb falls 0
  unfolding ascends_from
  ended falls h = ap (λ (t : Bool). eqb falls 0 && t) (ap (ascends_from low) (drop_of_length-le lines h)) ∙ and-true (eqb falls 0)
