-- The lines of a range stand side by side: between the places of its two ends.
use Rattle.std.proofs.Common.{◌≡◌, refl, sym, ap, ◌∙◌, Bool, true, false, cond, List, [], ◌∷◌, ℕ, zero, suc, ◌-◌, ◌≤◌, ◌<◌, zero-le, le_refl, le_of_suc-le-suc, not-suc-le-zero, le_trans, arith, leb-true, le-leb, lt-ltb, le-ltb, leb, length, take, drop}
use Rattle.std.proofs.lemmas.Bool.{lt-leb}
use mathlib.Core.Bool.{and-false}
use native.Mathlib.Nat.{sub-zero}
use lib.Seq.{take-nil, drop-nil}
use Rattle.numbers.specs.Answers.{Answer, accepted, refused, given}
use Rattle.numbers.proofs.Laws.{by_order}
use Rattle.lines.specs.Lines.{ascends, lines_answer, between, range_of}
use Rattle.lines.specs.Places.{Splits}

-- ---- a place, without the first line

pub tail_splits : (frame line : ℕ) (rest : List ℕ) (place : ℕ) → Splits frame (line ∷ rest) (suc place) → Splits frame rest place
tail_splits frame line rest place s = record {
  within = le_of_suc-le-suc s.within;
  below = λ k h. s.below (suc k) (omega arith);
  from = λ k h g. s.from (suc k) (omega arith) (omega arith);
}

pub tail_none : (frame line : ℕ) (rest : List ℕ) → Splits frame (line ∷ rest) zero → Splits frame rest zero
tail_none frame line rest s = record {
  within = zero-le;
  below = λ k h. absurd (not-suc-le-zero h);
  from = λ k h g. s.from (suc k) zero-le (omega arith);
}

-- ---- one line

module _ (start end line : ℕ) (rest : List ℕ) where
  pub line_in : start ≤ line → line < end → between start end (line ∷ rest) ≡ line ∷ between start end rest
  unfolding between
  line_in h k = rw (le-leb start line h, lt-ltb line end k, between)

  pub line_before : line < start → between start end (line ∷ rest) ≡ between start end rest
  unfolding between
  line_before h = rw (lt-leb start line h, between)

  pub line_past : end ≤ line → between start end (line ∷ rest) ≡ between start end rest
  unfolding between
  line_past h = rw (le-ltb line end h, and-false (leb start line), between)

-- ---- the lines between two places

module _ (start end : ℕ) (h : start ≤ end) where
  pub part_is : (lines : List ℕ) (a b : ℕ) → Splits start lines a → Splits end lines b → between start end lines ≡ take (b - a) (drop a lines)
  unfolding between
  part_is [] a b s t = sym (ap (take (b - a)) (drop-nil a) ∙ take-nil (b - a))
  part_is (line ∷ rest) zero zero s t =
      line_past start end line rest (t.from zero zero-le (omega arith)) ∙ part_is rest zero zero (tail_none start line rest s) (tail_none end line rest t)
  part_is (line ∷ rest) zero (suc b) s t =
      line_in start end line rest (s.from zero zero-le (omega arith)) (t.below zero (omega arith))
      ∙ ap (λ (l : List ℕ). line ∷ l) (part_is rest zero b (tail_none start line rest s) (tail_splits end line rest b t)) ∙ simp sub-zero
  part_is (line ∷ rest) (suc a) zero s t =
      let e : line < start = s.below zero (omega arith) in
      let f : end ≤ line = t.from zero zero-le (omega arith) in
      absurd (omega arith)
  part_is (line ∷ rest) (suc a) (suc b) s t =
      line_before start end line rest (s.below zero (omega arith)) ∙ part_is rest a b (tail_splits start line rest a s) (tail_splits end line rest b t)
      ∙ ap (λ (n : ℕ). take n (drop a rest)) (let m : b - a ≡ suc b - suc a = omega arith in m)

  pub places_rise : (lines : List ℕ) (a b : ℕ) → Splits start lines a → Splits end lines b → a ≤ b
  places_rise lines a b s t = by_order b a (λ l. absurd (omega (arith, s.below b l, t.from b (le_refl b) (omega (arith, s.within))))) (λ l. l)

-- no line is from start up to end where start is not below end
pub none_between : (start end : ℕ) → end ≤ start → (lines : List ℕ) → between start end lines ≡ []
unfolding between
none_between start end h [] = refl
none_between start end h (line ∷ rest) =
    by_order line start (line_before start end line rest) (λ l. line_past start end line rest (le_trans h l)) ∙ none_between start end h rest

-- ---- lines that the test passes

abbrev done : Answer Unit
done = accepted tt

pub fine_lines : (lines : List ℕ) → done ≡ lines_answer lines → (length lines ≤ 65536) × (ascends lines ≡ true)
fine_lines lines = go (leb (length lines) 65536) refl (ascends lines)
  where
    go : (p : Bool) → leb (length lines) 65536 ≡ p → (q : Bool) → done ≡ cond p (cond q done (refused 11 [])) (refused 4 []) → (length lines ≤ 65536) × (q ≡ true)
    go true e true h = (leb-true (length lines) 65536 e, refl)
    go true e false h = absurd (let z : ◌≡◌ {A = ℕ} 0 1 = cc in omega arith)
    go false e q h = absurd (let z : ◌≡◌ {A = ℕ} 0 1 = cc in omega arith)

-- the range where the test is known
pub range_by : (start end : ℕ) (lines : List ℕ) (test : Answer Unit) → test ≡ lines_answer lines → given (λ u. between start end lines) test [] ≡ range_of start end lines
range_by start end lines test e = ap (λ (a : Answer Unit). given (λ u. between start end lines) a []) e
