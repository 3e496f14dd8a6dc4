-- A scan reads three words at a time: after i words, the points of the words that are left are the points that are left.
use mathlib.Core.Path.{◌≡◌, refl, sym, ap, ◌∙◌}
use mathlib.Core.Bool.{Bool, true, false, ◌&&◌}
use mathlib.Core.List.{List, [], ◌∷◌}
use Prim.Native.Nat.{ℕ, ◌+◌, ◌*◌, ◌%◌, ◌<◌, ◌≤◌, suc}
use native.Mathlib.Numerals.{add-one, add-two, add-three}
use native.Mathlib.Omega.{arith}
use lib.Dec.{leb}
use lib.ListN.{length, get_or, drop, length-drop}
use lib.Seq.{drop-cons}
use Rattle.std.proofs.Common.{◌-◌, take}
use Rattle.std.proofs.lemmas.List.{take_all}
use borrow.Author.Tests.{le-leb, lt-leb}
use Rattle.meter.specs.declared.MeterPoint.{MeterPoint}
use Rattle.meter.specs.Meters.{points_of, point_at, later, last_at, nearer, next_change}
use Rattle.meter.specs.Starts.{ascends}

-- three words, and the rest
drop_three : (words : List ℕ) (i : ℕ) → i + 2 < length words → drop i words ≡ get_or words i 0 ∷ get_or words (i + 1) 0 ∷ get_or words (i + 2) 0 ∷ drop (i + 3) words
drop_three words i h =
    rw (add-one, add-two, add-three)
    (drop-cons words i 0 (omega arith) ∙ ap (λ (l : List ℕ). get_or words i 0 ∷ l)
    (drop-cons words (suc i) 0 (omega arith) ∙ ap (λ (l : List ℕ). get_or words (suc i) 0 ∷ l)
    (drop-cons words (suc (suc i)) 0 (omega arith))))

-- how many points words are
pub points_length : (words : List ℕ) → length words ≡ length (points_of words) * 3 + length words % 3
unfolding points_of
points_length [] = refl
points_length (b ∷ []) = refl
points_length (b ∷ n ∷ []) = refl
points_length (b ∷ n ∷ d ∷ rest) = omega (arith, points_length rest)

few_words : (words : List ℕ) → length words ≤ 2 → points_of words ≡ []
unfolding points_of
few_words [] h = refl
few_words (b ∷ []) h = refl
few_words (b ∷ n ∷ []) h = refl
few_words (b ∷ n ∷ d ∷ rest) h = let z : ⊥ = omega arith in absurd z

module _ (words : List ℕ) (i : ℕ) where
  -- the points from i on
  abbrev pub left : List MeterPoint
  left = points_of (drop i words)

  pub points_step : i + 2 < length words → left ≡ point_at words i ∷ points_of (drop (i + 3) words)
  unfolding points_of
  points_step h = ap points_of (drop_three words i h)

  pub points_end : length words ≤ i + 2 → left ≡ []
  points_end h = few_words (drop i words) (simp length-drop (omega arith))

-- what an iterator over the points takes off the words
pub points_first : (words : List ℕ) → 3 ≤ length words → points_of words ≡ point_at words 0 ∷ points_of (take (length words - 3) (drop 3 words))
points_first words h =
    points_step words 0 (omega arith)
    ∙ ap (λ (rest : List ℕ). point_at words 0 ∷ points_of rest) (sym (take_all (length words - 3) (drop 3 words) (simp length-drop (omega arith))))

-- ---- the end of each scan, and a turn of it: what is left gives the same answer

module _ (map : List MeterPoint) (e : map ≡ []) where
  pub last_end : (bar : ℕ) (found : MeterPoint) → last_at map bar found ≡ found
  unfolding last_at
  last_end bar found = ap (λ (map : List MeterPoint). last_at map bar found) e

  pub next_end : (bar end : ℕ) → next_change map bar end ≡ end
  unfolding next_change
  next_end bar end = ap (λ (map : List MeterPoint). next_change map bar end) e

  pub ascends_end : (low : ℕ) → ascends low map ≡ true
  unfolding ascends
  ascends_end low = ap (ascends low) e

module _ (map rest : List MeterPoint) (point : MeterPoint) (e : map ≡ point ∷ rest) where
  pub last_again : (bar : ℕ) (found next first : MeterPoint) → next ≡ later point bar found → last_at map bar found ≡ first → last_at rest bar next ≡ first
  unfolding last_at
  last_again bar found next first l q = ap (last_at rest bar) l ∙ sym (ap (λ (map : List MeterPoint). last_at map bar found) e) ∙ q

  pub next_again : (bar end next first : ℕ) → next ≡ nearer point.bar bar end → next_change map bar end ≡ first → next_change rest bar next ≡ first
  unfolding next_change
  next_again bar end next first n q = ap (next_change rest bar) n ∙ sym (ap (λ (map : List MeterPoint). next_change map bar end) e) ∙ q

  ascends_step : (low : ℕ) → ascends low map ≡ leb low point.bar && ascends point.bar rest
  unfolding ascends
  ascends_step low = ap (ascends low) e

  pub ascends_not : (low : ℕ) → point.bar < low → ascends low map ≡ false
  ascends_not low k = ascends_step low ∙ ap (λ (t : Bool). t && ascends point.bar rest) (lt-leb low point.bar k)

  pub ascends_again : (low : ℕ) → low ≤ point.bar → ascends point.bar rest ≡ ascends low map
  ascends_again low k = sym (ascends_step low ∙ ap (λ (t : Bool). t && ascends point.bar rest) (le-leb low point.bar k))
