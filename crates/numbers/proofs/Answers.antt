-- A contract that is an equation has one answer, also where the answer is read through a definition that reads no two cases alike.
use mathlib.Core.Path.{◌≡◌, sym, ap, ◌∙◌}
use Prim.Native.Nat.{ℕ}
use Rattle.numbers.specs.Answers.{Answer, accepted, refused}

pub one_answer : {A : Type 0} {r s x : A} → r ≡ x → s ≡ x → r ≡ s
one_answer p q = p ∙ sym q

-- no two cases read alike
abbrev pub Apart : {A B : Type 0} → (A → B) → Type 0
Apart {A} read = (r s : A) → read r ≡ read s → r ≡ s

pub one_reading : {A B : Type 0} (read : A → B) → Apart read → (r s : A) (x : B) → read r ≡ x → read s ≡ x → r ≡ s
one_reading read apart r s x p q = apart r s (p ∙ sym q)

-- cases that can be told from their reading are apart
pub apart_by : {A B : Type 0} (read : A → B) (back : B → A) → ((r : A) → back (read r) ≡ r) → Apart read
apart_by read back same r s e = sym (same r) ∙ ap back e ∙ same s

-- the case of an answer: that of an accepted value, or that of a refusal's number
abbrev pub case_of : {A R : Type 0} → (A → R) → (ℕ → R) → Answer A → R
case_of done left (accepted a) = done a
case_of done left (refused n facts) = left n

pub apart_cases : {A R : Type 0} (read : R → Answer A) (done : A → R) (left : ℕ → R) → ((r : R) → case_of done left (read r) ≡ r) → Apart read
apart_cases read done left same = apart_by read (case_of done left) same
