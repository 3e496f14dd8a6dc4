-- Where the bars of a map ascend, one pass over it gives each start: what is left of the map says what the whole map says of the bars from there on.
use Rattle.std.proofs.Common.{Option}
use mathlib.Core.Path.{◌≡◌, refl, sym, ap, ◌∙◌}
use mathlib.Core.Bool.{Bool, true, cond, ◌&&◌}
use mathlib.Core.List.{List, [], ◌∷◌}
use Prim.Native.Nat.{ℕ, suc, min, max, ◌-◌, ◌<◌, ◌≤◌}
use native.Mathlib.Nat.{le_refl, le_trans, le_of_lt, min-eq_left, min-eq_right, max-eq_right, max-eq_left}
use native.Mathlib.Omega.{arith}
use lib.Dec.{leb, ltb}
use borrow.Author.Tests.{lt-ltb, le-ltb, leb-true, le-leb}
use Rattle.numbers.proofs.Laws.{by_order, and_left, and_right}
use Rattle.beats.specs.declared.Beat.{Beat}
use Rattle.meter.specs.declared.MeterPoint.{MeterPoint}
use Rattle.meter.specs.Meters.{nearer, last_at, fallback, meter_at, len_of, bar_len, next_change}
use Rattle.meter.specs.Starts.{after_bars, ending, segments, start_of, ascends}
use Rattle.meter.specs.Fits.{good_den, sound_from}
use Rattle.meter.proofs.Walking.{nearer_above, nearer_else, later_in, later_out, ending_bars, ending_none, len_rest, segments_over, segments_turn, one, start_segments}

-- from a bar, which starts at `at` and where the meter is `meter`, to the bar `end`, over the points that are left
unfoldable pub pass : List MeterPoint → ℕ → ℕ → MeterPoint → Beat → Beat
pass [] bar end meter at = ending bar end meter at
pass (point ∷ rest) bar end meter at =
    cond (ltb point.bar end) (pass rest (max bar point.bar) end point (ending bar point.bar meter at)) (ending bar end meter at)

-- ---- one step

module _ (point : MeterPoint) (rest : List MeterPoint) (bar end : ℕ) (meter : MeterPoint) (at : Beat) where
  pass_past : end ≤ point.bar → pass (point ∷ rest) bar end meter at ≡ ending bar end meter at
  unfolding pass
  pass_past h = rw (le-ltb point.bar end h, pass)

  pass_on : point.bar < end → pass (point ∷ rest) bar end meter at ≡ pass rest (max bar point.bar) end point (ending bar point.bar meter at)
  unfolding pass
  pass_on h = rw (lt-ltb point.bar end h, pass)

-- ---- points that lie ahead change nothing yet

module _ (point : MeterPoint) (rest : List MeterPoint) (low : ℕ) (s : ascends low (point ∷ rest) ≡ true) where
  low_le : low ≤ point.bar
  unfolding ascends
  low_le = leb-true low point.bar (and_left (leb low point.bar) (ascends point.bar rest) s)

  rest_ascends : ascends point.bar rest ≡ true
  unfolding ascends
  rest_ascends = and_right (leb low point.bar) (ascends point.bar rest) s

next_ahead : (map : List MeterPoint) (low bar end : ℕ) → ascends low map ≡ true → bar < low → end ≤ low → next_change map bar end ≡ end
unfolding next_change
next_ahead [] low bar end s h k = refl
next_ahead (point ∷ rest) low bar end s h k =
    let l = low_le point rest low s in
    let e : nearer point.bar bar end ≡ end = nearer_above point.bar bar end (omega arith) ∙ min-eq_right {n = end} {m = point.bar} (omega arith) in
    ap (next_change rest bar) e ∙ next_ahead rest point.bar bar end (rest_ascends point rest low s) (omega arith) (omega arith)

last_ahead : (map : List MeterPoint) (low bar : ℕ) (found : MeterPoint) → ascends low map ≡ true → bar < low → last_at map bar found ≡ found
unfolding last_at
last_ahead [] low bar found s h = refl
last_ahead (point ∷ rest) low bar found s h =
    let l = low_le point rest low s in
    ap (last_at rest bar) (later_out point bar found (omega arith)) ∙ last_ahead rest point.bar bar found (rest_ascends point rest low s) (omega arith)

-- ---- the pass is the walk

module _ (map : List MeterPoint) (default : ℕ) (pickup : Option Beat) where
  -- what is left of the map, with the meter at a bar, says what the whole map says from there on
  pub record Rest (points : List MeterPoint) (bar : ℕ) (meter : MeterPoint) : Type 0 where
    pub meters : (k : ℕ) → bar ≤ k → meter_at map default k ≡ last_at points k meter
    pub changes : (k end : ℕ) → bar ≤ k → next_change map k end ≡ next_change points k end

  pub rest_on : (point : MeterPoint) (points : List MeterPoint) (bar next : ℕ) (meter : MeterPoint) → bar ≤ next → point.bar ≤ next → Rest (point ∷ points) bar meter → Rest points next point
  unfolding last_at next_change
  rest_on point points bar next meter h l r =
      record {
        meters = λ k q. r.meters k (le_trans h q) ∙ ap (last_at points k) (later_in point k meter (le_trans l q));
        changes = λ k end q. r.changes k end (le_trans h q) ∙ ap (next_change points k) (nearer_else point.bar k end (le_trans l q));
      }

  -- up to the first point that is left, the change and the meter are known
  module _ (point : MeterPoint) (points : List MeterPoint) (low bar : ℕ) (meter : MeterPoint) (s : ascends low (point ∷ points) ≡ true) (r : Rest (point ∷ points) bar meter) where
    pub rest_next : (end n : ℕ) → min point.bar end ≡ n → n ≤ point.bar → bar < point.bar → next_change map bar end ≡ n
    unfolding next_change
    rest_next end n e h k =
        r.changes bar end (le_refl bar)
        ∙ ap (next_change points bar) (nearer_above point.bar bar end k ∙ e)
        ∙ next_ahead points point.bar bar n (rest_ascends point points low s) k h

    pub rest_meter : bar < point.bar → meter_at map default bar ≡ meter
    unfolding last_at
    rest_meter k =
        r.meters bar (le_refl bar)
        ∙ ap (last_at points bar) (later_out point bar meter k)
        ∙ last_ahead points point.bar bar meter (rest_ascends point points low s) k

  -- the walk's next step, from what it meets next
  step : (bar n end : ℕ) (meter : MeterPoint) (at : Beat) → 0 < bar → bar < end → next_change map bar end ≡ n → meter_at map default bar ≡ meter
      → segments map default pickup (end - bar) bar end at ≡ segments map default pickup (end - n) n end (after_bars at (len_of meter) (n - bar))
  step bar n end meter at p h en em =
      segments_turn map default pickup bar end at h
      ∙ ap (λ (k : ℕ). segments map default pickup (end - k) k end (after_bars at (bar_len map default pickup bar) (k - bar))) en
      ∙ ap (λ (l : Beat). segments map default pickup (end - n) n end (after_bars at l (n - bar))) (sym (len_rest map default pickup bar (λ e. omega arith)) ∙ ap len_of em)

  -- the bars up to a change that lies ahead
  up_to : (bar n end : ℕ) (meter : MeterPoint) (at : Beat) → 0 < bar → n ≤ end → (bar < n → next_change map bar end ≡ n) → (bar < n → meter_at map default bar ≡ meter)
      → segments map default pickup (end - max bar n) (max bar n) end (ending bar n meter at) ≡ segments map default pickup (end - bar) bar end at
  up_to bar n end meter at p h en em =
      by_order bar n
      (λ l.
      (λ t. let to = max-eq_right (le_of_lt l) t in segments map default pickup (end - to) to end (ending_bars bar n meter at l t))
      ∙ sym (step bar n end meter at p (omega arith) (en l) (em l)))
      (λ l. λ t. let to = max-eq_left l t in segments map default pickup (end - to) to end (ending_none bar n meter at l t))

  last_bars : (bar end : ℕ) (meter : MeterPoint) (at : Beat) → 0 < bar → (bar < end → next_change map bar end ≡ end) → (bar < end → meter_at map default bar ≡ meter)
      → ending bar end meter at ≡ segments map default pickup (end - bar) bar end at
  last_bars bar end meter at p en em =
      sym (segments_over map default pickup (end - max bar end) (max bar end) end (ending bar end meter at) (omega arith))
      ∙ up_to bar end end meter at p (le_refl end) en em

  pass_is : (points : List MeterPoint) (low bar end : ℕ) (meter : MeterPoint) (at : Beat) → ascends low points ≡ true → 0 < bar → Rest points bar meter
      → pass points bar end meter at ≡ segments map default pickup (end - bar) bar end at
  unfolding pass last_at next_change
  pass_is [] low bar end meter at s p r = last_bars bar end meter at p (λ h. r.changes bar end (le_refl bar)) (λ h. r.meters bar (le_refl bar))
  pass_is (point ∷ rest) low bar end meter at s p r =
      let change = point.bar in
      let t = rest_ascends point rest low s in
      by_order change end
      (λ h. pass_on point rest bar end meter at h
      ∙ pass_is rest change (max bar change) end point (ending bar change meter at) t (omega arith) (rest_on point rest bar (max bar change) meter (omega arith) (omega arith) r)
      ∙ up_to bar change end meter at p (omega arith) (rest_next point rest low bar meter s r end change (min-eq_left (le_of_lt h)) (le_refl change)) (rest_meter point rest low bar meter s r))
      (λ h. pass_past point rest bar end meter at h
      ∙ last_bars bar end meter at p (λ l. rest_next point rest low bar meter s r end end (min-eq_right h) h (omega arith))
      (λ l. rest_meter point rest low bar meter s r (omega arith)))

  pub pass_start : (bar : ℕ) → ascends 0 map ≡ true → 0 < bar → pass map 1 bar (fallback default) (one map default pickup) ≡ start_of map default pickup bar
  pass_start bar s h =
      pass_is map 0 1 bar (fallback default) (one map default pickup) s (omega arith) (record { meters = λ k q. refl; changes = λ k end q. refl })
      ∙ start_segments map default pickup bar h

-- ---- what the code needs

module _ (map : List MeterPoint) (bar end : ℕ) (meter : MeterPoint) (at : Beat) where
  pub pass_end : map ≡ [] → pass map bar end meter at ≡ ending bar end meter at
  unfolding pass
  pass_end e = ap (λ (map : List MeterPoint). pass map bar end meter at) e

  module _ (point : MeterPoint) (rest : List MeterPoint) (e : map ≡ point ∷ rest) where
    pub pass_stop : end ≤ point.bar → pass map bar end meter at ≡ ending bar end meter at
    pass_stop k = ap (λ (map : List MeterPoint). pass map bar end meter at) e ∙ pass_past point rest bar end meter at k

    pub pass_again : (next : ℕ) (after there : Beat) → point.bar < end → next ≡ max bar point.bar → after ≡ ending bar point.bar meter at
        → pass map bar end meter at ≡ there → pass rest next end point after ≡ there
    pass_again next after there k en ea q =
        (λ t. pass rest (en t) end point (ea t))
        ∙ sym (ap (λ (map : List MeterPoint). pass map bar end meter at) e ∙ pass_on point rest bar end meter at k)
        ∙ q

-- ---- a map without problems ascends

ascends_lower : (map : List MeterPoint) (low high : ℕ) → low ≤ high → ascends high map ≡ true → ascends low map ≡ true
unfolding ascends
ascends_lower [] low high h s = refl
ascends_lower (point ∷ rest) low high h s =
    ap (λ (t : Bool). t && ascends point.bar rest) (le-leb low point.bar (le_trans h (low_le point rest high s))) ∙ rest_ascends point rest high s

pub from_ascends : (map : List MeterPoint) (low : ℕ) → sound_from low map ≡ true → ascends low map ≡ true
unfolding ascends sound_from
from_ascends [] low s = refl
from_ascends (point ∷ rest) low s =
    let more = sound_from (suc point.bar) rest in
    let n = ltb 0 point.numerator in
    let d = good_den point.denominator in
    ap (λ (t : Bool). t && ascends point.bar rest) (and_left (leb low point.bar) (n && (d && more)) s)
    ∙ ascends_lower rest point.bar (suc point.bar) (omega arith)
    (from_ascends rest (suc point.bar) (and_right d more (and_right n (d && more) (and_right (leb low point.bar) (n && (d && more)) s))))
