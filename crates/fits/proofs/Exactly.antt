-- The decision is exact. Going over the points that are left, each segment stands for its bars: its two last starts are accepted exactly where all of its starts are.
use Rattle.std.proofs.Common.{Option}
use mathlib.Core.Path.{◌≡◌, refl, sym, ap, ◌∙◌}
use mathlib.Core.Bool.{Bool, true, false, cond, ◌&&◌}
use mathlib.Core.List.{List, [], ◌∷◌}
use Prim.Native.Nat.{ℕ, zero, suc, min, max, ◌+◌, ◌-◌, ◌<◌, ◌≤◌}
use native.Mathlib.Nat.{le_refl}
use native.Mathlib.Omega.{arith}
use lib.Dec.{leb, ltb}
use lib.ListN.{length}
use Rattle.numbers.specs.Answers.{Answer, accepted, refused, is_accepted, then}
use Rattle.numbers.proofs.Laws.{by_order, and_left, and_right, never}
use Rattle.beats.specs.declared.Beat.{Beat}
use Rattle.beats.specs.Beats.{zero_beat}
use Rattle.beats.specs.Sums.{add_beats}
use Rattle.beats.proofs.Laws.{zero_beat_lem}
use Rattle.meter.specs.declared.MeterPoint.{MeterPoint}
use Rattle.meter.specs.Meters.{fallback, meter_at, len_of, bar_len, last_at, next_change}
use Rattle.meter.specs.Starts.{checked_bars, checked_segments, checked_start}
use Rattle.meter.specs.Fits.{good_den, sound_from, first_zero, sound_map, forward_pickup, Fits, last_bar}
use Rattle.meter.proofs.Laws.{from_ascends, Rest, rest_on, rest_next, rest_meter, len_rest, checked_end, checked_more, forward_beat, forward_len}
use Rattle.fits.specs.Decision.{segment, reach, walked, walk_fits, fits_bool}
use Rattle.fits.proofs.Walking.{segment_on, reach_bars, reach_none}
use Rattle.fits.proofs.Segments.{accepted_some, Forward, sum_forward, bars_forward, len_forward, len_power, last_two, one_before}

-- ---- a segment

-- the start before the last was accepted
chosen : (before : Bool) (answer : Answer Beat) → is_accepted (cond before answer (refused 2 [])) ≡ true → before ≡ true
chosen true answer e = refl
chosen false answer e = never e

module _ (bar end : ℕ) (meter : MeterPoint) (at : Beat) (l : bar < end) where
  abbrev len : Beat
  len = len_of meter

  reach_before : is_accepted (reach bar end meter at) ≡ true → is_accepted (checked_bars at len (end - bar - 1)) ≡ true
  unfolding segment
  reach_before e = chosen (is_accepted (checked_bars at len (end - bar - 1))) (checked_bars at len (end - bar)) (sym (ap is_accepted (reach_bars bar end meter at l)) ∙ e)

  reach_last : is_accepted (checked_bars at len (end - bar - 1)) ≡ true → reach bar end meter at ≡ checked_bars at len (end - bar)
  reach_last e = reach_bars bar end meter at l ∙ sym (segment_on at len (end - bar) e)

  module _ (good : good_den meter.denominator ≡ true) (ahead : Forward at) where
    -- where the segment is accepted, each of its starts is
    each : is_accepted (reach bar end meter at) ≡ true → (k : ℕ) → bar < k → k ≤ end → is_accepted (checked_bars at len (k - bar)) ≡ true
    each e k h g =
        let before = reach_before e in
        last_two at len ahead (len_forward meter good) (len_power meter good) (end - bar) (k - bar) (omega arith) (omega arith) before (sym (ap is_accepted (reach_last before)) ∙ e)

    -- and the other way
    all_before : ((k : ℕ) → bar < k → k ≤ end → is_accepted (checked_bars at len (k - bar)) ≡ true) → is_accepted (checked_bars at len (end - bar - 1)) ≡ true
    all_before f =
        one_before at len ahead (len_forward meter good) (len_power meter good) (end - bar) (omega arith)
        (λ r h g. let m : bar + r - bar ≡ r = omega arith in
        sym (ap (λ (x : ℕ). is_accepted (checked_bars at len x)) m) ∙ f (bar + r) (omega arith) (omega arith))

-- ---- the points that are left

walked_refused : (points : List MeterPoint) (bar : ℕ) (meter : MeterPoint) (n : ℕ) (facts : List ℕ) → walked points bar meter (refused n facts) ≡ refused n facts
unfolding walked
walked_refused [] bar meter n facts = refl
walked_refused (point ∷ rest) bar meter n facts = walked_refused rest (max bar (min point.bar last_bar)) point n facts

walked_needs : (points : List MeterPoint) (bar : ℕ) (meter : MeterPoint) (start : Answer Beat) → is_accepted (walked points bar meter start) ≡ true → is_accepted start ≡ true
walked_needs points bar meter (accepted at) e = refl
walked_needs points bar meter (refused n facts) e = sym (ap is_accepted (walked_refused points bar meter n facts)) ∙ e

-- behind bar 2^31 nothing is looked at
walked_past : (points : List MeterPoint) (bar : ℕ) (meter : MeterPoint) (at : Beat) → last_bar ≤ bar → walked points bar meter (accepted at) ≡ accepted at
unfolding walked
walked_past [] bar meter at h = reach_none bar last_bar meter at h
walked_past (point ∷ rest) bar meter at h =
    let m : max bar (min point.bar last_bar) ≡ bar = omega arith in
    let z : min point.bar last_bar ≤ bar = omega arith in
    (λ t. walked rest (m t) point (reach_none bar (min point.bar last_bar) meter at z t)) ∙ walked_past rest bar point at h

module _ (map : List MeterPoint) (default : ℕ) (pickup : Option Beat) where
  abbrev walk : ℕ → ℕ → ℕ → Beat → Answer Beat
  walk = checked_segments map default pickup

  -- ---- one step of the walk

  walk_over : (most bar end : ℕ) (at : Beat) → end ≤ bar → walk most bar end at ≡ accepted at
  unfolding checked_segments
  walk_over zero bar end at h = refl
  walk_over (suc most) bar end at h = checked_end map default pickup most bar end at h

  walk_none : (bar end : ℕ) (at : Beat) → walk 0 bar end at ≡ accepted at
  unfolding checked_segments
  walk_none bar end at = refl

  -- where the walk stands, the next change and the meter are known
  record Next (bar end n : ℕ) (meter : MeterPoint) : Type 0 where
    above : 0 < bar
    more : bar < end
    change : next_change map bar end ≡ n
    force : meter_at map default bar ≡ meter

  module _ (bar end n : ℕ) (meter : MeterPoint) (at : Beat) (next : Next bar end n meter) where
    step : (most : ℕ) → walk (suc most) bar end at ≡ then (checked_bars at (len_of meter) (n - bar)) (λ there. walk most n end there)
    step most =
        checked_more map default pickup most bar end at next.more
        ∙ (λ t. then (checked_bars at (same t) (next.change t - bar)) (λ there. walk most (next.change t) end there))
      where
        same : bar_len map default pickup bar ≡ len_of meter
        same = let p = next.above in sym (len_rest map default pickup bar (λ e. omega arith)) ∙ ap len_of next.force

    -- over a segment
    over : (there : Beat) → checked_bars at (len_of meter) (n - bar) ≡ accepted there → (most : ℕ) → walk (suc most) bar end at ≡ walk most n end there
    over there e most = step most ∙ ap (λ (x : Answer Beat). then x (λ b. walk most n end b)) e

  -- to a bar inside a segment
  inside : (bar end : ℕ) (meter : MeterPoint) (at : Beat) → Next bar end end meter → (most : ℕ) → is_accepted (walk (suc most) bar end at) ≡ is_accepted (checked_bars at (len_of meter) (end - bar))
  inside bar end meter at next most = ap is_accepted (step bar end end meter at next most) ∙ ends (checked_bars at (len_of meter) (end - bar))
    where
      ends : (x : Answer Beat) → is_accepted (then x (λ there. walk most end end there)) ≡ is_accepted x
      ends (accepted there) = ap is_accepted (walk_over most end end there (le_refl end))
      ends (refused k facts) = refl

  -- ---- what is known of the points that are left, at a bar that starts at `at`

  record Stands (points : List MeterPoint) (low bar : ℕ) (meter : MeterPoint) (at : Beat) : Type 0 where
    points_sound : sound_from low points ≡ true
    meter_good : good_den meter.denominator ≡ true
    bar_above : 0 < bar
    map_rest : Rest map default pickup points bar meter
    at_forward : Forward at

  module _ (point : MeterPoint) (points : List MeterPoint) (low bar : ℕ) (meter : MeterPoint) (at : Beat) (s : Stands (point ∷ points) low bar meter at) where
    -- behind the next point
    moved : (next : ℕ) (there : Beat) → bar ≤ next → point.bar ≤ next → Forward there → Stands points (suc point.bar) next point there
    unfolding sound_from
    moved next there h l f =
        let above = s.bar_above in
        let n = ltb 0 point.numerator in
        let d = good_den point.denominator in
        let more = sound_from (suc point.bar) points in
        let s₂ = and_right n (d && more) (and_right (leb low point.bar) (n && (d && more)) s.points_sound) in
        record {
          points_sound = and_right d more s₂;
          meter_good = and_left d more s₂;
          bar_above = omega arith;
          map_rest = rest_on map default pickup point points bar next meter h l s.map_rest;
          at_forward = f;
        }

    -- the next point is the next change
    next_at : (end n : ℕ) → bar < end → bar < point.bar → min point.bar end ≡ n → Next bar end n meter
    next_at end n l k e =
        let a = from_ascends (point ∷ points) low s.points_sound in
        record {
          above = s.bar_above;
          more = l;
          change = rest_next map default pickup point points low bar meter a s.map_rest end n e (omega arith) k;
          force = rest_meter map default pickup point points low bar meter a s.map_rest k;
        }

  -- no point is left
  next_none : (low bar end : ℕ) (meter : MeterPoint) (at : Beat) → Stands [] low bar meter at → bar < end → Next bar end end meter
  unfolding next_change last_at
  next_none low bar end meter at s l =
      record { above = s.bar_above; more = l; change = s.map_rest.changes bar end (le_refl bar); force = s.map_rest.meters bar (le_refl bar) }

  -- ---- the decision is right

  to_inside : (bar end : ℕ) (meter : MeterPoint) (at : Beat) → Next bar end end meter → is_accepted (checked_bars at (len_of meter) (end - bar)) ≡ true
      → (most : ℕ) → is_accepted (walk most bar end at) ≡ true
  to_inside bar end meter at next e zero = ap is_accepted (walk_none bar end at)
  to_inside bar end meter at next e (suc most) = inside bar end meter at next most ∙ e

  to_over : (bar end n : ℕ) (meter : MeterPoint) (at there : Beat) → Next bar end n meter → checked_bars at (len_of meter) (n - bar) ≡ accepted there
      → ((most : ℕ) → is_accepted (walk most n end there) ≡ true) → (most : ℕ) → is_accepted (walk most bar end at) ≡ true
  to_over bar end n meter at there next e f zero = ap is_accepted (walk_none bar end at)
  to_over bar end n meter at there next e f (suc most) = ap is_accepted (over bar end n meter at next there e most) ∙ f most

  every : (points : List MeterPoint) (low bar : ℕ) (meter : MeterPoint) (at : Beat) → Stands points low bar meter at → is_accepted (walked points bar meter (accepted at)) ≡ true
      → (end : ℕ) → end ≤ last_bar → (most : ℕ) → is_accepted (walk most bar end at) ≡ true
  unfolding walked
  every [] low bar meter at s w end h most =
      by_order bar end
      (λ l. to_inside bar end meter at (next_none low bar end meter at s l) (each bar last_bar meter at (omega arith) s.meter_good s.at_forward w end l h) most)
      (λ l. ap is_accepted (walk_over most bar end at l))
  every (point ∷ rest) low bar meter at s w end h most =
      let change = point.bar in
      let edge = min change last_bar in
      let r = walked_needs rest (max bar edge) point (reach bar edge meter at) w in
      by_order bar end
      (λ l. by_order bar change
      (λ k. by_order edge end
      (λ j.
      let g : bar < edge = omega arith in
      let m : edge ≡ change = omega arith in
      let b = reach_before bar edge meter at g r in
      accepted_some (reach bar edge meter at) r (λ there et.
      let e : checked_bars at (len_of meter) (change - bar) ≡ accepted there
      = ap (λ (x : ℕ). checked_bars at (len_of meter) (x - bar)) (sym m) ∙ sym (reach_last bar edge meter at g b) ∙ et in
      let i : max bar edge ≡ change = omega arith in
      to_over bar end change meter at there (next_at point rest low bar meter at s end change l k (omega arith)) e
      (every rest (suc change) change point there
      (moved point rest low bar meter at s change there (omega arith) (le_refl change) (bars_forward at (len_of meter) there (change - bar) s.at_forward (len_forward meter s.meter_good) e))
      (sym (λ t. is_accepted (walked rest (i t) point (et t))) ∙ w) end h) most))
      (λ j. to_inside bar end meter at (next_at point rest low bar meter at s end end l k (omega arith)) (each bar edge meter at (omega arith) s.meter_good s.at_forward r end l j) most))
      (λ k.
      let i : max bar edge ≡ bar = omega arith in
      let z : edge ≤ bar = omega arith in
      every rest (suc change) bar point at (moved point rest low bar meter at s bar at (le_refl bar) k s.at_forward)
      (sym (λ t. is_accepted (walked rest (i t) point (reach_none bar edge meter at z t))) ∙ w) end h most))
      (λ l. ap is_accepted (walk_over most bar end at l))

  -- ---- and it misses none

  from_inside : (bar end : ℕ) (meter : MeterPoint) (at : Beat) → Next bar end end meter → (most : ℕ) → end - bar ≤ most → is_accepted (walk most bar end at) ≡ true
      → is_accepted (checked_bars at (len_of meter) (end - bar)) ≡ true
  from_inside bar end meter at next zero h e =
      let l = next.more in
      let z : ⊥ = omega arith in
      absurd z
  from_inside bar end meter at next (suc most) h e = sym (inside bar end meter at next most) ∙ e

  from_over : (bar end n : ℕ) (meter : MeterPoint) (at there : Beat) → Next bar end n meter → checked_bars at (len_of meter) (n - bar) ≡ accepted there
      → (most : ℕ) → end - bar ≤ most → is_accepted (walk most bar end at) ≡ true → is_accepted (walk (most - 1) n end there) ≡ true
  from_over bar end n meter at there next e zero h q =
      let l = next.more in
      let z : ⊥ = omega arith in
      absurd z
  from_over bar end n meter at there next e (suc most) h q =
      let m : suc most - 1 ≡ most = omega arith in
      ap (λ (x : ℕ). is_accepted (walk x n end there)) m ∙ sym (ap is_accepted (over bar end n meter at next there e most)) ∙ q

  whole : (points : List MeterPoint) (low bar : ℕ) (meter : MeterPoint) (at : Beat) (steps : ℕ → ℕ) → Stands points low bar meter at → ((end : ℕ) → end - bar ≤ steps end)
      → ((end : ℕ) → end ≤ last_bar → is_accepted (walk (steps end) bar end at) ≡ true) → is_accepted (walked points bar meter (accepted at)) ≡ true
  unfolding walked
  whole [] low bar meter at steps s enough f =
      by_order bar last_bar
      (λ l.
      let g : (k : ℕ) → bar < k → k ≤ last_bar → is_accepted (checked_bars at (len_of meter) (k - bar)) ≡ true
      = λ k p q. from_inside bar k meter at (next_none low bar k meter at s p) (steps k) (enough k) (f k q) in
      ap is_accepted (reach_last bar last_bar meter at l (all_before bar last_bar meter at l s.meter_good s.at_forward g)) ∙ g last_bar l (le_refl last_bar))
      (λ l. ap is_accepted (reach_none bar last_bar meter at l))
  whole (point ∷ rest) low bar meter at steps s enough f =
      let change = point.bar in
      let edge = min change last_bar in
      by_order bar last_bar
      (λ l. by_order bar change
      (λ k.
      let b : bar < edge = omega arith in
      let g : (end : ℕ) → bar < end → end ≤ edge → is_accepted (checked_bars at (len_of meter) (end - bar)) ≡ true
      = λ end p q. from_inside bar end meter at (next_at point rest low bar meter at s end end p k (omega arith)) (steps end) (enough end) (f end (omega arith)) in
      let r = reach_last bar edge meter at b (all_before bar edge meter at b s.meter_good s.at_forward g) in
      accepted_some (checked_bars at (len_of meter) (edge - bar)) (g edge b (le_refl edge)) (λ there e.
      let i : max bar edge ≡ edge = omega arith in
      (λ t. is_accepted (walked rest (i t) point ((r ∙ e) t)))
      ∙ by_order last_bar change
      (λ j. ap is_accepted (walked_past rest edge point there (omega arith)))
      (λ j.
      let m : edge ≡ change = omega arith in
      let e₂ : checked_bars at (len_of meter) (change - bar) ≡ accepted there = ap (λ (x : ℕ). checked_bars at (len_of meter) (x - bar)) (sym m) ∙ e in
      ap (λ (x : ℕ). is_accepted (walked rest x point (accepted there))) m
      ∙ whole rest (suc change) change point there (λ end. steps end - 1)
      (moved point rest low bar meter at s change there (omega arith) (le_refl change) (bars_forward at (len_of meter) there (change - bar) s.at_forward (len_forward meter s.meter_good) e₂))
      (λ end. omega (arith, enough end))
      (λ end h. by_order change end
      (λ p. from_over bar end change meter at there (next_at point rest low bar meter at s end change (omega arith) k (omega arith)) e₂ (steps end) (enough end) (f end h))
      (λ p. ap is_accepted (walk_over (steps end - 1) change end there p))))))
      (λ k.
      let i : max bar edge ≡ bar = omega arith in
      let z : edge ≤ bar = omega arith in
      (λ t. is_accepted (walked rest (i t) point (reach_none bar edge meter at z t)))
      ∙ whole rest (suc change) bar point at steps (moved point rest low bar meter at s bar at (le_refl bar) k s.at_forward) enough f))
      (λ l. ap is_accepted (walked_past (point ∷ rest) bar meter at l))

  -- ---- from bar 1 on

  begins : sound_map map ≡ true → forward_pickup pickup ≡ true → (one : Beat) → add_beats zero_beat (bar_len map default pickup 0) ≡ accepted one → Stands map 0 1 (fallback default) one
  unfolding sound_map
  begins s f one e =
      record {
        points_sound = and_right (first_zero map) (sound_from 0 map) (and_right (leb (length map) 256) (first_zero map && sound_from 0 map) s);
        meter_good = refl;
        bar_above = omega arith;
        map_rest = record { meters = λ k q. refl; changes = λ k end q. refl };
        at_forward =
            sum_forward zero_beat (bar_len map default pickup 0) one (record { fine = zero_beat_lem; ahead = refl })
            (record { fine = forward_beat map default pickup f 0; ahead = forward_len map default pickup f 0 }) e;
      }

  walks : sound_map map ≡ true → forward_pickup pickup ≡ true → is_accepted (walked map 1 (fallback default) (add_beats zero_beat (bar_len map default pickup 0))) ≡ true
      → (bar : ℕ) → bar ≤ last_bar → is_accepted (checked_start map default pickup bar) ≡ true
  unfolding checked_start
  walks s f w zero h = refl
  walks s f w (suc bar) h =
      accepted_some (add_beats zero_beat (bar_len map default pickup 0)) (walked_needs map 1 (fallback default) (add_beats zero_beat (bar_len map default pickup 0)) w)
      (λ one e.
      ap (λ (x : Answer Beat). is_accepted (then x (λ o. walk (suc bar) 1 (suc bar) o))) e
      ∙ every map 0 1 (fallback default) one (begins s f one e) (sym (ap (λ (x : Answer Beat). is_accepted (walked map 1 (fallback default) x)) e) ∙ w) (suc bar) h (suc bar))

  then_needs : (x : Answer Beat) (k : Beat → Answer Beat) → is_accepted (then x k) ≡ true → is_accepted x ≡ true
  then_needs (accepted b) k e = refl
  then_needs (refused n facts) k e = e

  walk_passes : Fits map default pickup → is_accepted (walked map 1 (fallback default) (add_beats zero_beat (bar_len map default pickup 0))) ≡ true
  unfolding checked_start checked_segments
  walk_passes fits =
      accepted_some (add_beats zero_beat (bar_len map default pickup 0)) (then_needs (add_beats zero_beat (bar_len map default pickup 0)) (λ one. walk 1 1 1 one) (fits.walks 1 (omega arith)))
      (λ one e.
      ap (λ (x : Answer Beat). is_accepted (walked map 1 (fallback default) x)) e
      ∙ whole map 0 1 (fallback default) one (λ end. end) (begins fits.sound fits.forward one e) (λ end. omega arith) (reached one e))
    where
      reached : (one : Beat) → add_beats zero_beat (bar_len map default pickup 0) ≡ accepted one → (end : ℕ) → end ≤ last_bar → is_accepted (walk end 1 end one) ≡ true
      reached one e zero h = refl
      reached one e (suc bar) h = sym (ap (λ (x : Answer Beat). is_accepted (then x (λ o. walk (suc bar) 1 (suc bar) o))) e) ∙ fits.walks (suc bar) h

  -- the decision is yes only for a score that fits
  pub decided : fits_bool map default pickup ≡ true → Fits map default pickup
  unfolding fits_bool walk_fits
  decided e =
      let rest = forward_pickup pickup && walk_fits map default pickup in
      let s = and_left (sound_map map) rest e in
      let r = and_right (sound_map map) rest e in
      let f = and_left (forward_pickup pickup) (walk_fits map default pickup) r in
      record { sound = s; forward = f; walks = walks s f (and_right (forward_pickup pickup) (walk_fits map default pickup) r) }

  -- and for every one that does
  pub complete : Fits map default pickup → fits_bool map default pickup ≡ true
  unfolding fits_bool walk_fits
  complete fits = λ i. fits.sound i && (fits.forward i && walk_passes fits i)
