-- What is known of words that neither 3 nor 4 refuses.
use Rattle.std.proofs.Common.{◌≡◌, ◌↔◌, IsTrue, ℕ, ◌%◌, ◌≤◌, Bool, true, false, cond, ◌&&◌, ◌||◌, not, leb, ltb, eqb, List, [], ◌∷◌, refl, ◌∙◌, arith, leb-true, eqb-true}
use Rattle.std.proofs.lemmas.Bool.Decides.{nat_tests}
use Rattle.std.proofs.lemmas.Bool.{false≢true}
use Rattle.std.proofs.lemmas.List.Folds.{list_any-from_Any, Any-from_list_any}
use Rattle.std.specs.List.{list_any, Any}
use Rattle.numbers.proofs.Laws.{cases}
use Rattle.numbers.specs.Answers.{accepted, refused}
use Rattle.notes.specs.Notes.{refusal_of_one, refusal_of_two, refusal_of, passed_by}

pub record One (words : ℕ) : Type 0 where
  pub even : words % 4 ≡ 0
  pub short : words ≤ 16384

pub one : (words : ℕ) → refusal_of_one words ≡ 0 → One words
one words = go (eqb (words % 4) 0) (leb words 16384) refl refl
  where
    go : (p r : Bool) → eqb (words % 4) 0 ≡ p → leb words 16384 ≡ r → ◌≡◌ {A = ℕ} (cond p (cond r 0 4) 3) 0 → One words
    go true true ep er e = record { even = eqb-true _ _ ep; short = leb-true _ _ er }
    go true false ep er e = absurd (omega arith)
    go false r ep er e = absurd (omega arith)

pub record Two (a b : ℕ) : Type 0 where
  pub first : One a
  pub second : One b

pub two : (a b : ℕ) → refusal_of_two a b ≡ 0 → Two a b
two a b = go (eqb (a % 4) 0) (eqb (b % 4) 0) (leb a 16384) (leb b 16384) refl refl refl refl
  where
    go : (p q r s : Bool) → eqb (a % 4) 0 ≡ p → eqb (b % 4) 0 ≡ q → leb a 16384 ≡ r → leb b 16384 ≡ s
        → ◌≡◌ {A = ℕ} (cond (p && q) (cond (r && s) 0 4) 3) 0 → Two a b
    go true true true true ep eq er es e = record {
      first = record { even = eqb-true _ _ ep; short = leb-true _ _ er };
      second = record { even = eqb-true _ _ eq; short = leb-true _ _ es };
    }
    go true true true false ep eq er es e = absurd (omega arith)
    go true true false s ep eq er es e = absurd (omega arith)
    go true false r s ep eq er es e = absurd (omega arith)
    go false q r s ep eq er es e = absurd (omega arith)

-- ---- lists of any number

order : (a : ℕ) → ltb 16384 a ≡ not (leb a 16384)
order a = grind (arith, nat_tests)

-- the definitions of one list, and of two, are cases of that of many
pub of_one : (a : ℕ) → refusal_of (a ∷ []) ≡ refusal_of_one a
of_one a = go (eqb (a % 4) 0) (leb a 16384) (ltb 16384 a) (order a)
  where
    go : (p r q : Bool) → q ≡ not r → ◌≡◌ {A = ℕ} (cond (not p || false) 3 (cond (q || false) 4 0)) (cond p (cond r 0 4) 3)
    go true true q e = simp e
    go true false q e = simp e
    go false r q e = refl

pub of_two : (a b : ℕ) → refusal_of (a ∷ b ∷ []) ≡ refusal_of_two a b
of_two a b = go (eqb (a % 4) 0) (eqb (b % 4) 0) (leb a 16384) (ltb 16384 a) (leb b 16384) (ltb 16384 b) (order a) (order b)
  where
    go : (p p' r q r' q' : Bool) → q ≡ not r → q' ≡ not r'
        → ◌≡◌ {A = ℕ} (cond (not p || (not p' || false)) 3 (cond (q || (q' || false)) 4 0)) (cond (p && p') (cond (r && r') 0 4) 3)
    go true true true q true q' e f = simp (e, f)
    go true true true q false q' e f = simp (e, f)
    go true true false q r' q' e f = simp (e, f)
    go true false r q r' q' e f = refl
    go false p' r q r' q' e f = refl

-- ---- what the tests say

any_is : {p : ℕ → Bool} (xs : List ℕ) (r : Bool) → (IsTrue r ↔ Any (λ n. p n ≡ true) xs) → list_any p xs ≡ r
any_is {p} xs true f = list_any-from_Any p xs (f.0 refl)
any_is {p} xs false f = cases (list_any p xs) (λ t. absurd (false≢true (f.1 (Any-from_list_any p xs t)))) (λ e. e)

module _ (counts : List ℕ) (p : Bool) (f : IsTrue p ↔ Any (λ n. not (eqb (n % 4) 0) ≡ true) counts) where
  pub uneven : p ≡ true → refused 3 [] ≡ passed_by (refusal_of counts)
  uneven t = simp (any_is counts p f ∙ t)

  module _ (s : p ≡ false) (q : Bool) (g : IsTrue q ↔ Any (λ n. ltb 16384 n ≡ true) counts) where
    pub long : q ≡ true → refused 4 [] ≡ passed_by (refusal_of counts)
    long t = simp (any_is counts p f ∙ s, any_is counts q g ∙ t)

    pub sound : q ≡ false → accepted tt ≡ passed_by (refusal_of counts)
    sound t = simp (any_is counts p f ∙ s, any_is counts q g ∙ t)
