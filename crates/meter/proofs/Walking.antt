-- The walk by segments, one step at a time: the next change lies ahead and the meter stays up to it, so any bound that covers the bars left gives one answer.
use Rattle.std.proofs.Common.{Option}
use mathlib.Core.Path.{◌≡◌, refl, sym, ap, ◌∙◌, subst}
use mathlib.Core.List.{List, [], ◌∷◌}
use Prim.Native.Nat.{ℕ, zero, suc, min, ◌-◌, ◌<◌, ◌≤◌}
use native.Mathlib.Nat.{le_refl, le_trans, lt_of_lt_of_le}
use native.Mathlib.Omega.{arith}
use lib.IntN.{pos}
use borrow.Author.Tests.{lt-ltb, le-ltb, le-leb, lt-leb}
use Rattle.numbers.specs.Answers.{accepted, then}
use Rattle.numbers.proofs.Laws.{by_order}
use Rattle.beats.specs.declared.Beat.{Beat}
use Rattle.beats.specs.Beats.{zero_beat}
use Rattle.beats.specs.Sums.{add_beats, mul_beat, or_most}
use Rattle.meter.specs.declared.MeterPoint.{MeterPoint}
use Rattle.meter.specs.Meters.{later, nearer, last_at, fallback, meter_at, len_of, pickup_or, bar_len, next_change}
use Rattle.meter.specs.Starts.{after_bars, ending, segments, start_of, checked_bars, checked_segments, ascends, opening_of}

-- ---- the next change

module _ (change bar end : ℕ) where
  pub nearer_above : bar < change → nearer change bar end ≡ min change end
  unfolding nearer
  nearer_above h = rw (lt-ltb bar change h)

  pub nearer_else : change ≤ bar → nearer change bar end ≡ end
  unfolding nearer
  nearer_else h = rw (le-ltb bar change h)

  pub nearer_first : bar < change → change < end → change ≡ nearer change bar end
  nearer_first h l = let m : min change end ≡ change = omega arith in sym (nearer_above h ∙ m)

  pub nearer_last : bar < change → end ≤ change → end ≡ nearer change bar end
  nearer_last h l = let m : min change end ≡ end = omega arith in sym (nearer_above h ∙ m)

  nearer_le : nearer change bar end ≤ end
  nearer_le = by_order bar change (λ h. omega (arith, nearer_above h)) (λ h. omega (arith, nearer_else h))

  nearer_gt : bar < end → bar < nearer change bar end
  nearer_gt p = by_order bar change (λ h. omega (arith, nearer_above h)) (λ h. omega (arith, nearer_else h))

pub next_le : (map : List MeterPoint) (bar end : ℕ) → next_change map bar end ≤ end
unfolding next_change
next_le [] bar end = le_refl end
next_le (point ∷ rest) bar end = le_trans (next_le rest bar (nearer point.bar bar end)) (nearer_le point.bar bar end)

pub next_gt : (map : List MeterPoint) (bar end : ℕ) → bar < end → bar < next_change map bar end
unfolding next_change
next_gt [] bar end h = h
next_gt (point ∷ rest) bar end h = next_gt rest bar (nearer point.bar bar end) (nearer_gt point.bar bar end h)

-- ---- the meter stays up to the next change

module _ (point : MeterPoint) (bar : ℕ) (found : MeterPoint) where
  pub later_in : point.bar ≤ bar → later point bar found ≡ point
  unfolding later
  later_in h = rw (le-leb point.bar bar h)

  pub later_out : bar < point.bar → later point bar found ≡ found
  unfolding later
  later_out h = rw (lt-leb point.bar bar h)

later_same : (point : MeterPoint) (i j end : ℕ) (found : MeterPoint) → i ≤ j → j < nearer point.bar i end → later point j found ≡ later point i found
later_same point i j end found h l =
    by_order i point.bar
    (λ p. later_out point j found (omega (arith, nearer_above point.bar i end p)) ∙ sym (later_out point i found p))
    (λ p. later_in point j found (omega arith) ∙ sym (later_in point i found p))

last_same : (map : List MeterPoint) (i j end : ℕ) (found : MeterPoint) → i ≤ j → j < next_change map i end → last_at map j found ≡ last_at map i found
unfolding last_at next_change
last_same [] i j end found h l = refl
last_same (point ∷ rest) i j end found h l =
    ap (last_at rest j) (later_same point i j end found h (lt_of_lt_of_le l (next_le rest i (nearer point.bar i end))))
    ∙ last_same rest i j (nearer point.bar i end) (later point i found) h l

-- ---- bars of one meter

-- a scaling or an addition that is refused is turned into (2^63 - 1)/1
pub bars_stopped : (at len : Beat) (n : ℕ) → after_bars at len n ≡ or_most (add_beats at (or_most (mul_beat len (pos n) 1)))
unfolding after_bars
bars_stopped at len n = refl

module _ (bar end : ℕ) (meter : MeterPoint) (at : Beat) where
  pub ending_bars : bar < end → ending bar end meter at ≡ after_bars at (len_of meter) (end - bar)
  unfolding ending
  ending_bars h = rw (lt-ltb bar end h, ending)

  pub ending_none : end ≤ bar → ending bar end meter at ≡ at
  unfolding ending
  ending_none h = rw (le-ltb bar end h, ending)

module _ (map : List MeterPoint) (default : ℕ) (pickup : Option Beat) where
  -- ---- lengths

  pub len_first : (bar : ℕ) → bar ≡ 0 → pickup_or pickup (len_of (meter_at map default bar)) ≡ bar_len map default pickup bar
  unfolding bar_len
  len_first zero e = refl
  len_first (suc bar) e = let z : ⊥ = omega arith in absurd z

  -- a bar other than 0 lasts what its meter says
  pub len_rest : (bar : ℕ) → ((bar ≡ 0) → ⊥) → len_of (meter_at map default bar) ≡ bar_len map default pickup bar
  unfolding bar_len
  len_rest zero e = absurd (e refl)
  len_rest (suc bar) e = refl

  -- the bars of a segment last as long as its first
  pub len_same : (i j end : ℕ) → 0 < i → i ≤ j → j < next_change map i end → bar_len map default pickup j ≡ bar_len map default pickup i
  len_same i j end p h l =
      sym (len_rest j (λ e. omega arith))
      ∙ ap len_of (last_same map i j end (fallback default) h l)
      ∙ len_rest i (λ e. omega arith)

  -- ---- one step of the walk

  module _ (most bar end : ℕ) (at : Beat) where
    pub segments_end : end ≤ bar → segments map default pickup (suc most) bar end at ≡ at
    unfolding segments
    segments_end h = rw (le-ltb bar end h, segments)

    pub segments_more : bar < end → segments map default pickup (suc most) bar end at
        ≡ segments map default pickup most (next_change map bar end) end (after_bars at (bar_len map default pickup bar) (next_change map bar end - bar))
    unfolding segments
    segments_more h = rw (lt-ltb bar end h, segments)

    pub checked_end : end ≤ bar → checked_segments map default pickup (suc most) bar end at ≡ accepted at
    unfolding checked_segments
    checked_end h = rw (le-ltb bar end h, checked_segments)

    pub checked_more : bar < end → checked_segments map default pickup (suc most) bar end at
        ≡ then (checked_bars at (bar_len map default pickup bar) (next_change map bar end - bar)) (λ there. checked_segments map default pickup most (next_change map bar end) end there)
    unfolding checked_segments
    checked_more h = rw (lt-ltb bar end h, checked_segments)

  -- ---- what the code needs: the bound of segments does not matter, as long as it suffices

  pub segments_over : (most bar end : ℕ) (at : Beat) → end ≤ bar → segments map default pickup most bar end at ≡ at
  unfolding segments
  segments_over zero bar end at h = refl
  segments_over (suc most) bar end at h = segments_end most bar end at h

  segments_enough : (f g bar end : ℕ) (at : Beat) → end - bar ≤ f → end - bar ≤ g → segments map default pickup f bar end at ≡ segments map default pickup g bar end at
  segments_enough zero g bar end at h k = segments_over zero bar end at (omega arith) ∙ sym (segments_over g bar end at (omega arith))
  segments_enough (suc f) zero bar end at h k = segments_over (suc f) bar end at (omega arith) ∙ sym (segments_over zero bar end at (omega arith))
  segments_enough (suc f) (suc g) bar end at h k =
      by_order bar end
      (λ l.
      let n = next_change map bar end in
      let p : bar < n = next_gt map bar end l in
      segments_more f bar end at l
      ∙ segments_enough f g n end (after_bars at (bar_len map default pickup bar) (n - bar)) (omega arith) (omega arith)
      ∙ sym (segments_more g bar end at l))
      (λ l. segments_over (suc f) bar end at l ∙ sym (segments_over (suc g) bar end at l))

  -- one turn of the loop
  pub segments_turn : (bar end : ℕ) (at : Beat) → bar < end → segments map default pickup (end - bar) bar end at
      ≡ segments map default pickup (end - next_change map bar end) (next_change map bar end) end (after_bars at (bar_len map default pickup bar) (next_change map bar end - bar))
  segments_turn bar end at l =
      let n = next_change map bar end in
      let p : bar < n = next_gt map bar end l in
      segments_enough (end - bar) (suc (end - bar)) bar end at (omega arith) (omega arith)
      ∙ segments_more (end - bar) bar end at l
      ∙ segments_enough (end - bar) (end - n) n end (after_bars at (bar_len map default pickup bar) (n - bar)) (omega arith) (omega arith)

  -- the invariant again, from what the calls ensure
  pub segments_again : (bar end n : ℕ) (at len after there : Beat) → bar < end → n ≡ next_change map bar end → len ≡ bar_len map default pickup bar → after ≡ after_bars at len (n - bar)
      → segments map default pickup (end - bar) bar end at ≡ there → (0 < n) × ((n ≤ end) × (segments map default pickup (end - n) n end after ≡ there))
  segments_again bar end n at len after there h en el ea q =
      let p : bar < next_change map bar end = next_gt map bar end h in
      (omega arith, (subst (λ (x : ℕ). x ≤ end) (sym en) (next_le map bar end), made))
    where
      made : segments map default pickup (end - n) n end after ≡ there
      made =
          ap (segments map default pickup (end - n) n end) (ea ∙ ap (λ (x : Beat). after_bars at x (n - bar)) el)
          ∙ ap (λ (x : ℕ). segments map default pickup (end - x) x end (after_bars at (bar_len map default pickup bar) (x - bar))) en
          ∙ sym (segments_turn bar end at h)
          ∙ q

  -- ---- the start

  -- where bar 1 starts
  abbrev pub one : Beat
  one = or_most (add_beats zero_beat (bar_len map default pickup 0))

  pub opening_one : (opening_of map default pickup).1 ≡ one
  unfolding opening_of
  opening_one = refl

  pub opening_ascending : (opening_of map default pickup).0 ≡ ascends 0 map
  unfolding opening_of
  opening_ascending = refl

  pub start_zero : (bar : ℕ) → bar ≡ 0 → zero_beat ≡ start_of map default pickup bar
  unfolding start_of
  start_zero zero e = refl
  start_zero (suc bar) e = let z : ⊥ = omega arith in absurd z

  pub start_segments : (bar : ℕ) → 0 < bar → segments map default pickup (bar - 1) 1 bar one ≡ start_of map default pickup bar
  unfolding start_of
  start_segments zero h = let z : ⊥ = omega arith in absurd z
  start_segments (suc bar) h = segments_enough (suc bar - 1) (suc bar) 1 (suc bar) one (omega arith) (omega arith)
