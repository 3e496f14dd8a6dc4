-- The cues of a run are exactly the bar lines sounded, in playing order. It goes time by time, and at each time line by line.
use Rattle.std.proofs.Common.{◌≡◌, refl, sym, ap, subst, ◌∙◌, Bool, true, false, cond, List, [], ◌∷◌, ◌++◌, inl, inr, ⊎_elim, ℕ, zero, suc, ◌+◌, ◌<◌, add-zero, zero-add, arith, eqb-true, eq-eqb, eqb, length, get_or}
use Rattle.std.proofs.Math.Option.{Option, none, some}
use mathlib.Core.List.Memᴰ
use Rattle.numbers.proofs.Laws.{by_order}
use Rattle.transport.specs.declared.Transport.{Transport}
use Rattle.transport.specs.Transports.{playing}
use Rattle.transport.specs.Advances.{advanced}
use Rattle.cues.specs.Sounding.{Cue, cue_if, sounded_at, lines_equal, cues_at, cues}
use Rattle.cues.specs.Exactly.{Among, Sounds, Exactly, Before, InOrder, Ordered}

-- ---- the lines that are equal to a frame

-- a cue of the k-th line, where the first has this place
record Found (time frame place : ℕ) (lines : List ℕ) (cue : Cue) : Type 0 where
  at : cue.0 ≡ time
  k : ℕ
  within : k < length lines
  counts : cue.1 ≡ place + k
  line : get_or lines k 0 ≡ frame

-- the one cue that there may be
only : (q : Bool) (one cue : Cue) → Among cue (cue_if q one) → (q ≡ true) × (cue ≡ one)
only true one cue m = (refl, Memᴰ.eq_of_singleton m)
only false one cue m = absurd (Memᴰ.not-nil m)

module _ (time frame : ℕ) where
  found : (place : ℕ) (lines : List ℕ) (cue : Cue) → Among cue (lines_equal time frame place lines) → Found time frame place lines cue
  found place [] cue m = absurd (Memᴰ.not-nil m)
  found place (line ∷ rest) cue m =
      ⊎_elim
      (λ here. let e = only (eqb line frame) (time, place) cue here in
      record { at = ap (λ (c : Cue). c.0) e.1; k = 0; within = omega arith; counts = ap (λ (c : Cue). c.1) e.1 ∙ sym (add-zero place); line = eqb-true line frame e.0 })
      (λ further. let f = found (suc place) rest cue further in
      record { at = f.at; k = suc f.k; within = omega arith; counts = omega arith; line = f.line })
      (Memᴰ.append_cases (cue_if (eqb line frame) (time, place)) m)

  finds : (place : ℕ) (lines : List ℕ) (k : ℕ) → k < length lines → get_or lines k 0 ≡ frame → Among (time, place + k) (lines_equal time frame place lines)
  finds place [] k h e = absurd (omega arith)
  finds place (line ∷ rest) zero h e = rw (eq-eqb line frame e) (Memᴰ.head (ap (λ (n : ℕ). (time, n)) (add-zero place)))
  finds place (line ∷ rest) (suc k) h e =
      Memᴰ.append_right (cue_if (eqb line frame) (time, place))
      (Memᴰ.cast (ap (λ (n : ℕ). (time, n)) (let one_on : place + suc k ≡ suc place + k = omega arith in one_on)) (finds (suc place) rest k (omega arith) e))

-- they stand in the order of their places
lines_order : (time frame place : ℕ) (lines : List ℕ) → InOrder (lines_equal time frame place lines)
lines_order time frame place [] = tt
lines_order time frame place (line ∷ rest) = first (eqb line frame) (lines_order time frame (suc place) rest)
  where
    first : (q : Bool) → InOrder (lines_equal time frame (suc place) rest) → InOrder (cue_if q (time, place) ++ lines_equal time frame (suc place) rest)
    first true others = (λ other m. let f = found time frame (suc place) rest other m in inr (sym f.at, omega arith), others)
    first false others = others

-- ---- at one time

module _ (lines : List ℕ) (time : ℕ) where
  at_time : (sounded : Option ℕ) (cue : Cue) → Among cue (cues_at lines time sounded) → (cue.0 ≡ time) × (cue.1 < length lines) × (sounded ≡ some (get_or lines cue.1 0))
  at_time none cue m = absurd (Memᴰ.not-nil m)
  at_time (some frame) cue m =
      let f = found time frame 0 lines cue m in
      let same : cue.1 ≡ f.k = omega arith in
      (f.at, omega arith, ap some (sym (ap (λ (k : ℕ). get_or lines k 0) same ∙ f.line)))

  in_time : (place : ℕ) → place < length lines → Among (time, place) (cues_at lines time (some (get_or lines place 0)))
  in_time place h = Memᴰ.cast (ap (λ (n : ℕ). (time, n)) (sym (zero-add place))) (finds time (get_or lines place 0) 0 lines place h refl)

  at_order : (sounded : Option ℕ) → InOrder (cues_at lines time sounded)
  at_order none = tt
  at_order (some frame) = lines_order time frame 0 lines

-- ---- the frame sounded

-- one that plays, has not finished, and stands there
sounded_by : (frame : ℕ) (plays finished : Bool) (position : ℕ) → cond plays (cond finished none (some position)) none ≡ some frame
    → (plays ≡ true) × (finished ≡ false) × (position ≡ frame)
sounded_by frame true false position e = (refl, refl, cc)
sounded_by frame true true position e = absurd (let z : ◌≡◌ {A = ℕ} 0 1 = cc in omega arith)
sounded_by frame false finished position e = absurd (let z : ◌≡◌ {A = ℕ} 0 1 = cc in omega arith)

-- ---- the cues of a run

join : (xs ys : List Cue) → InOrder xs → InOrder ys → ((one other : Cue) → Among one xs → Among other ys → Before one other) → InOrder (xs ++ ys)
join [] ys p q f = q
join (x ∷ xs) ys p q f = (
  λ other m. ⊎_elim (p.0 other) (f x other (Memᴰ.head refl)) (Memᴰ.append_cases xs m),
  join xs ys p.1 q (λ one other a b. f one other (Memᴰ.tail a) b),
)

module _ (lines : List ℕ) (t : Transport) where
  sounds : (frames : ℕ) (cue : Cue) → Among cue (cues lines t frames) → Sounds lines t frames cue.0 cue.1
  sounds zero cue m = absurd (Memᴰ.not-nil m)
  sounds (suc time) cue m =
      ⊎_elim
      (λ before. let s = sounds time cue before in record { in_run = omega arith; in_list = s.in_list; plays = s.plays; goes_on = s.goes_on; stands_on = s.stands_on })
      (λ now.
      let a = at_time lines time (sounded_at t time) cue now in
      let s = sounded_by (get_or lines cue.1 0) (playing t.state) (advanced t time).moves.finished (advanced t time).transport.position a.2 in
      record {
        in_run = omega arith;
        in_list = a.1;
        plays = s.0;
        goes_on = rw a.0 s.1;
        stands_on = rw a.0 s.2;
      })
      (Memᴰ.append_cases (cues lines t time) m)

  sounded : (frames time place : ℕ) → Sounds lines t frames time place → Among (time, place) (cues lines t frames)
  sounded zero time place s = absurd (omega arith)
  sounded (suc last) time place s = by_order time last
      (λ h. Memᴰ.append_left (cues_at lines last (sounded_at t last)) (sounded last time place (record { in_run = h; in_list = s.in_list; plays = s.plays; goes_on = s.goes_on; stands_on = s.stands_on })))
      (λ h. Memᴰ.append_right (cues lines t last) (at_last (let e : time ≡ last = omega arith in e)))
    where
      at_last : time ≡ last → Among (time, place) (cues_at lines last (sounded_at t last))
      at_last e = subst (λ (n : ℕ). Among (time, place) (cues_at lines n (sounded_at t n))) e (rw (s.plays, s.goes_on, s.stands_on) (in_time lines time place s.in_list))

  -- at each time all are later than those before
  order : (frames : ℕ) → InOrder (cues lines t frames)
  order zero = tt
  order (suc time) = join (cues lines t time) (cues_at lines time (sounded_at t time)) (order time) (at_order lines time (sounded_at t time))
      (λ one other a b. inl (let h = (sounds time one a).in_run in let e = (at_time lines time (sounded_at t time) other b).0 in omega arith))

pub exactly : Exactly
exactly lines t frames time place = (sounds lines t frames (time, place), sounded lines t frames time place)

pub ordered : Ordered
ordered = order
