-- The marks of the bars give the number in force from bar to bar, and say where the meter may change.
use Rattle.std.proofs.Common.{◌≡◌, refl, sym, ap, ◌∙◌, subst, List, [], ◌∷◌, ℕ, zero, suc, max, ◌+◌, ◌-◌, ◌*◌, ◌<◌, ◌≤◌, le_refl, suc-mul, arith, eqb, length, get_or, eq-eqb, ne_eqb, eqb-true, lt-ltb, le-ltb}
use Rattle.std.proofs.lemmas.Bool.{eqb-false}
use native.Mathlib.Nat.{min-eq_left, min-eq_right, max-eq_left, max-eq_right, suc-sub-suc, sub-zero}
use Rattle.numbers.proofs.Laws.{by_order, cases}
use Rattle.meter.specs.declared.MeterPoint.{MeterPoint}
use Rattle.meter.specs.Meters.{points_of, point_at, last_at, nearer, next_change, fallback, meter_at}
use Rattle.meter.proofs.Laws.{left, points_step, points_end, nearer_above, nearer_else, later_in, later_out}
use Rattle.filler.specs.Numbers.{mark_from, mark_of, force_from, force_of, numbered}
use Rattle.filler.specs.Carried.{Clear}

-- ---- the mark of a point's own bar, and of every other

module _ (count : ℕ) (point : MeterPoint) (rest : List MeterPoint) (bar found : ℕ) where
  pub mark_own : point.bar ≡ bar → mark_from count (point ∷ rest) bar found ≡ mark_from (suc count) rest bar (suc count)
  unfolding mark_from
  mark_own e = rw (eq-eqb point.bar bar e)

  pub mark_other : (point.bar ≡ bar → ⊥) → mark_from count (point ∷ rest) bar found ≡ mark_from (suc count) rest bar found
  unfolding mark_from
  mark_other e = rw (ne_eqb point.bar bar e)

  force_in : point.bar < bar → force_from count (point ∷ rest) bar found ≡ force_from (suc count) rest bar (suc count)
  unfolding force_from
  force_in h = rw (lt-ltb point.bar bar h)

  force_out : bar ≤ point.bar → force_from count (point ∷ rest) bar found ≡ force_from (suc count) rest bar found
  unfolding force_from
  force_out h = rw (le-ltb point.bar bar h)

pub by_bar : {A : Type 0} (a b : ℕ) → (a ≡ b → A) → ((a ≡ b → ⊥) → A) → A
by_bar a b own other = cases (eqb a b) (λ e. own (eqb-true a b e)) (λ e. other (eqb-false a b e))

-- ---- where a bar has no mark

-- what was found before stays
mark_kept : (count : ℕ) (map : List MeterPoint) (bar found : ℕ) → 0 < found → 0 < mark_from count map bar found
unfolding mark_from
mark_kept count [] bar found h = h
mark_kept count (point ∷ rest) bar found h =
    by_bar point.bar bar
    (λ e. rw (mark_own count point rest bar found e) (mark_kept (suc count) rest bar (suc count) (omega arith)))
    (λ e. rw (mark_other count point rest bar found e) (mark_kept (suc count) rest bar found h))

clear_more : (count : ℕ) (map : List MeterPoint) (first bar : ℕ) → mark_from count map bar 0 ≡ 0 → Clear first bar map → Clear first (bar + 1) map
clear_more count [] first bar e c = tt
clear_more count (point ∷ rest) first bar e c =
    by_bar point.bar bar
    (λ own.
    let h : 0 < mark_from count (point ∷ rest) bar 0 = rw (mark_own count point rest bar 0 own) (mark_kept (suc count) rest bar (suc count) (omega arith)) in
    absurd (omega arith))
    (λ other. (
      λ h. let k : bar ≤ point.bar = c.0 h in omega (arith, other),
      clear_more (suc count) rest first bar (sym (mark_other count point rest bar 0 other) ∙ e) c.1,
    ))

-- a bar without a mark is clear too
pub clear_on : (map : List MeterPoint) (first bar : ℕ) → mark_of map bar ≡ 0 → Clear first bar map → Clear first (bar + 1) map
clear_on map first bar = clear_more 0 map first bar

-- between a bar and the next there is none
pub clear_begin : (map : List MeterPoint) (first : ℕ) → Clear first (first + 1) map
clear_begin [] first = tt
clear_begin (point ∷ rest) first = (λ h. omega arith, clear_begin rest first)

-- ---- the next change

-- up to a bar before which all is clear there is none
pub next_here : (map : List MeterPoint) (first bar : ℕ) → Clear first bar map → first < bar → next_change map first bar ≡ bar
unfolding next_change
next_here [] first bar c h = refl
next_here (point ∷ rest) first bar c h =
    by_order first point.bar
    (λ l.
    let m : bar ≤ point.bar = c.0 l in
    ap (next_change rest first) (nearer_above point.bar first bar l ∙ min-eq_right m) ∙ next_here rest first bar c.1 h)
    (λ l. ap (next_change rest first) (nearer_else point.bar first bar l) ∙ next_here rest first bar c.1 h)

next_more : (count : ℕ) (map : List MeterPoint) (first bar end : ℕ) → Clear first bar map → first < bar → bar ≤ end → 0 < mark_from count map bar 0 → next_change map first end ≡ bar
unfolding next_change mark_from
next_more count [] first bar end c h l m = absurd (omega arith)
next_more count (point ∷ rest) first bar end c h l m =
    by_bar point.bar bar
    (λ own.
    let k : nearer point.bar first end ≡ bar = nearer_above point.bar first end (omega arith) ∙ min-eq_left {n = point.bar} {m = end} (omega arith) ∙ own in
    ap (next_change rest first) k ∙ next_here rest first bar c.1 h)
    (λ other.
    next_more (suc count) rest first bar (nearer point.bar first end) c.1 h
    (by_order first point.bar
    (λ k. let b : bar ≤ point.bar = c.0 k in omega (arith, nearer_above point.bar first end k))
    (λ k. omega (arith, nearer_else point.bar first end k)))
    (rw (mark_other count point rest bar 0 other) at m))

-- and beyond it the next is that bar, where it has a mark
pub next_marked : (map : List MeterPoint) (first bar end : ℕ) → Clear first bar map → first < bar → bar ≤ end → 0 < mark_of map bar → next_change map first end ≡ bar
next_marked map = next_more 0 map

-- ---- the number in force

pub force_none : (count : ℕ) (map : List MeterPoint) (found : ℕ) → force_from count map 0 found ≡ found
unfolding force_from
force_none count [] found = refl
force_none count (point ∷ rest) found = force_out count point rest 0 found (omega arith) ∙ force_none (suc count) rest found

force_more : (count : ℕ) (map : List MeterPoint) (bar f m : ℕ) → f ≤ count → m ≤ count → force_from count map (bar + 1) (max f m) ≡ max (force_from count map bar f) (mark_from count map bar m)
unfolding force_from mark_from
force_more count [] bar f m p q = refl
force_more count (point ∷ rest) bar f m p q =
    by_order point.bar bar
    (λ h.
    force_in count point rest (bar + 1) (max f m) (omega arith)
    ∙ ap (force_from (suc count) rest (bar + 1)) (sym (max-eq_left {n = suc count} {m = m} (omega arith)))
    ∙ force_more (suc count) rest bar (suc count) m (le_refl (suc count)) (omega arith)
    ∙ sym (λ i. max (force_in count point rest bar f h i) (mark_other count point rest bar m (λ e. omega arith) i)))
    (λ h.
    by_bar point.bar bar
    (λ own.
    force_in count point rest (bar + 1) (max f m) (omega arith)
    ∙ ap (force_from (suc count) rest (bar + 1)) (sym (max-eq_right {n = f} {m = suc count} (omega arith)))
    ∙ force_more (suc count) rest bar f (suc count) (omega arith) (le_refl (suc count))
    ∙ sym (λ i. max (force_out count point rest bar f h i) (mark_own count point rest bar m own i)))
    (λ other.
    force_out count point rest (bar + 1) (max f m) (omega (arith, other))
    ∙ force_more (suc count) rest bar f m (omega arith) (omega arith)
    ∙ sym (λ i. max (force_out count point rest bar f h i) (mark_other count point rest bar m other i))))

-- one bar further it is the larger of the number in force and the bar's mark: the point that is listed later
pub force_on : (map : List MeterPoint) (bar : ℕ) → force_of map (bar + 1) ≡ max (force_of map bar) (mark_of map bar)
force_on map bar = force_more 0 map bar 0 0 (omega arith) (omega arith)

-- it is the number of a point
force_within : (count : ℕ) (map : List MeterPoint) (bar found : ℕ) → found ≤ count → force_from count map bar found ≤ count + length map
unfolding force_from
force_within count [] bar found p = omega arith
force_within count (point ∷ rest) bar found p =
    by_order point.bar bar
    (λ h. rw (force_in count point rest bar found h) (omega (arith, force_within (suc count) rest bar (suc count) (le_refl (suc count)))))
    (λ h. rw (force_out count point rest bar found h) (omega (arith, force_within (suc count) rest bar found (omega arith))))

pub force_listed : (map : List MeterPoint) (bar : ℕ) → force_of map bar ≤ length map
force_listed map bar = omega (arith, force_within 0 map bar 0 (omega arith))

-- ---- the meter of a number

module _ (words : List ℕ) (default bar : ℕ) where
  -- over the points after number `count`, with the number f found before them
  abbrev Same : ℕ → ℕ → List MeterPoint → Type 0
  Same count f map = last_at map bar (numbered words default f) ≡ numbered words default (force_from count map (bar + 1) f)

  same_none : (count f : ℕ) → Same count f []
  unfolding last_at force_from
  same_none count f = refl

  module _ (count f : ℕ) (point : MeterPoint) (rest : List MeterPoint) where
    same_in : point.bar ≤ bar → point ≡ numbered words default (suc count) → Same (suc count) (suc count) rest → Same count f (point ∷ rest)
    unfolding last_at
    same_in h e s =
        ap (last_at rest bar) (later_in point bar (numbered words default f) h ∙ e)
        ∙ s
        ∙ sym (ap (numbered words default) (force_in count point rest (bar + 1) f (omega arith)))

    same_out : bar < point.bar → Same (suc count) f rest → Same count f (point ∷ rest)
    unfolding last_at
    same_out h s =
        ap (last_at rest bar) (later_out point bar (numbered words default f) h)
        ∙ s
        ∙ sym (ap (numbered words default) (force_out count point rest (bar + 1) f (omega arith)))

  number_point : (count : ℕ) → point_at words (count * 3) ≡ numbered words default (suc count)
  unfolding numbered
  number_point count = refl

  meter_more : (n count f : ℕ) → length words ≤ count * 3 + n → Same count f (left words (count * 3))
  meter_more zero count f h = subst (Same count f) (sym (points_end words (count * 3) (omega arith))) (same_none count f)
  meter_more (suc n) count f h =
      by_order (count * 3 + 2) (length words)
      (λ l. subst (Same count f) (sym (points_step words (count * 3) l))
      (by_order bar (get_or words (count * 3) 0)
      (λ k. same_out count f (point_at words (count * 3)) (left words (count * 3 + 3)) k (from f (meter_more n (suc count) f (omega arith))))
      (λ k. same_in count f (point_at words (count * 3)) (left words (count * 3 + 3)) k (number_point count) (from (suc count) (meter_more n (suc count) (suc count) (omega arith))))))
      (λ l. subst (Same count f) (sym (points_end words (count * 3) l)) (same_none count f))
    where
      from : (g : ℕ) → Same (suc count) g (left words (suc count * 3)) → Same (suc count) g (left words (count * 3 + 3))
      from g s = subst (λ (i : ℕ). Same (suc count) g (left words i)) (suc-mul count 3) s

  no_number : fallback default ≡ numbered words default 0
  unfolding numbered
  no_number = refl

  -- the meter in force is that of the number in force
  pub number_meter : meter_at (points_of words) default bar ≡ numbered words default (force_of (points_of words) (bar + 1))
  number_meter = ap (last_at (points_of words) bar) no_number ∙ meter_more (length words) 0 0 (omega arith)

-- ---- the code's reading of it

module _ (words : List ℕ) (default : ℕ) where
  pub numbered_none : (number : ℕ) → number ≡ 0 → fallback default ≡ numbered words default number
  unfolding numbered
  numbered_none zero e = refl
  numbered_none (suc n) e = absurd (omega arith)

  pub numbered_point : (number : ℕ) → (number ≡ 0 → ⊥) → point_at words ((number - 1) * 3) ≡ numbered words default number
  unfolding numbered
  numbered_point zero e = absurd (e refl)
  numbered_point (suc n) e = ap (λ (k : ℕ). point_at words (k * 3)) (suc-sub-suc n 0 ∙ sub-zero n)
