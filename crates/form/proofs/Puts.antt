-- Words put behind the first ones.
use mathlib.Core.Path.{◌≡◌, ap, ◌∙◌}
use mathlib.Core.List.{List, [], ◌∷◌, ◌++◌, append_assoc}
use Prim.Native.Nat.{ℕ, ◌+◌, ◌≤◌, ◌<◌}
use native.Mathlib.Omega.{arith}
use native.Mathlib.Numerals.{add-one}
use lib.ListN.{length, take, set, length-set}
use lib.Seq.{take-suc-set}
use Rattle.form.specs.Forms.{Behind}

module _ {A : Type 0} where
  pub put_one : (out : List A) (place : ℕ) (v : A) → place < length out → Behind place (v ∷ []) out (set out place v)
  put_one out place v h = ap (λ (k : ℕ). take k (set out place v)) (add-one place) ∙ take-suc-set out place v h

  -- the same by another name of the element
  pub put_same : (out : List A) (place : ℕ) {v w : A} → v ≡ w → place < length out → Behind place (w ∷ []) out (set out place v)
  put_same out place {v} {w} e h = put_one out place v h ∙ ap (λ (u : A). take place out ++ (u ∷ [])) e

pub put_three : (out : List ℕ) (place a b d : ℕ) → place + 3 ≤ length out
    → Behind place (a ∷ b ∷ d ∷ []) out (set (set (set out place a) (place + 1) b) (place + 2) d)
put_three out place a b d h =
    let one = set out place a in
    let two = set one (place + 1) b in
    let all = set two (place + 2) d in
    let l : length one ≡ length out = length-set out place a in
    let m : length two ≡ length one = length-set one (place + 1) b in
    let x : place + 3 ≡ place + 2 + 1 = omega arith in
    let y : place + 2 ≡ place + 1 + 1 = omega arith in
    ap (λ (k : ℕ). take k all) x ∙ put_one two (place + 2) d (omega arith)
    ∙ ap (λ (l : List ℕ). l ++ (d ∷ [])) (ap (λ (k : ℕ). take k two) y ∙ put_one one (place + 1) b (omega arith)
    ∙ ap (λ (l : List ℕ). l ++ (b ∷ [])) (put_one out place a (omega arith)))
    ∙ simp append_assoc
