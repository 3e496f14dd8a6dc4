-- The pass that marks the bars: the points that are left give each entry its mark, from what stands there.
use Rattle.std.proofs.lemmas.List.{get_or-replicate, length-replicate}
use Rattle.std.proofs.Common.{replicate, zero-add, ◌≡◌, sym, ap, ◌∙◌, subst, List, [], ◌∷◌, ℕ, suc, ◌+◌, ◌*◌, ◌<◌, ◌≤◌, add-one, arith, length, get_or, set, length-set, get_or-set_same, get_or-set_other}
use Rattle.meter.specs.declared.MeterPoint.{MeterPoint}
use Rattle.meter.specs.Meters.{points_of}
use Rattle.meter.proofs.Laws.{points_length}
use Rattle.filler.specs.Numbers.{mark_from, mark_of, Marked}
use Rattle.filler.proofs.Numbering.{by_bar, mark_own, mark_other}

-- no marks yet
pub blank : (n : ℕ) → Marked [] n (replicate n 0)
unfolding mark_from
blank n = record { long = length-replicate n 0; marks = λ bar l. get_or-replicate n bar 0 0 l }

-- after `number` points, with these words left
pub record Marking (words : List ℕ) (n number : ℕ) (rest out : List ℕ) : Type 0 where
  pub long : length out ≡ n
  pub place : number + length (points_of rest) ≡ length (points_of words)
  pub marks : (bar : ℕ) → bar < n → mark_from number (points_of rest) bar (get_or out bar 0) ≡ mark_of (points_of words) bar

module _ (words : List ℕ) (n : ℕ) where
  pub marking_none : (out : List ℕ) → Marked [] n out → Marking words n 0 words out
  unfolding mark_from
  marking_none out m =
      record { long = m.long; place = zero-add (length (points_of words)); marks = λ bar h. ap (mark_from 0 (points_of words) bar) (m.marks bar h) }

  module _ (number : ℕ) (rest out : List ℕ) (m : Marking words n number rest out) where
    pub number_fits : number * 3 ≤ length words
    number_fits = omega (arith, m.place, points_length words)

    pub marking_end : points_of rest ≡ [] → Marked (points_of words) n out
    unfolding mark_from
    marking_end e =
        record { long = m.long; marks = λ bar l. sym (ap (λ (map : List MeterPoint). mark_from number map bar (get_or out bar 0)) e) ∙ m.marks bar l }

    module _ (point : MeterPoint) (left : List ℕ) (e : points_of rest ≡ point ∷ points_of left) where
      step : (bar : ℕ) → bar < n → mark_from number (point ∷ points_of left) bar (get_or out bar 0) ≡ mark_of (points_of words) bar
      step bar l = sym (ap (λ (map : List MeterPoint). mark_from number map bar (get_or out bar 0)) e) ∙ m.marks bar l

      next : (new : List ℕ) → length new ≡ n → ((bar : ℕ) → bar < n → mark_from (suc number) (points_of left) bar (get_or new bar 0) ≡ mark_of (points_of words) bar)
          → Marking words n (number + 1) left new
      next new long marks =
          record {
            long = long;
            place = omega (arith, m.place, ap length e);
            marks = λ bar l. ap (λ (k : ℕ). mark_from k (points_of left) bar (get_or new bar 0)) (add-one number) ∙ marks bar l;
          }

      -- a bar of the list
      pub marking_set : point.bar < n → Marking words n (number + 1) left (set out point.bar (number + 1))
      marking_set k =
          next (set out point.bar (number + 1)) (length-set out point.bar (number + 1) ∙ m.long)
          (λ bar l.
          by_bar point.bar bar
          (λ own.
          ap (mark_from (suc number) (points_of left) bar) (ap (λ (j : ℕ). get_or (set out point.bar (number + 1)) j 0) (sym own) ∙ here ∙ add-one number)
          ∙ sym (mark_own number point (points_of left) bar (get_or out bar 0) own)
          ∙ step bar l)
          (λ other.
          ap (mark_from (suc number) (points_of left) bar) (get_or-set_other out point.bar bar (number + 1) 0 (λ e. other (sym e)))
          ∙ sym (mark_other number point (points_of left) bar (get_or out bar 0) other)
          ∙ step bar l))
        where
          here : get_or (set out point.bar (number + 1)) point.bar 0 ≡ number + 1
          here = get_or-set_same out point.bar (number + 1) 0 (subst (λ (x : ℕ). point.bar < x) (sym m.long) k)

      -- a bar beyond it
      pub marking_beyond : n ≤ point.bar → Marking words n (number + 1) left out
      marking_beyond k =
          next out m.long
          (λ bar l. sym (mark_other number point (points_of left) bar (get_or out bar 0) (λ e. omega arith)) ∙ step bar l)
