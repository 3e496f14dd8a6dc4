-- Where no operation of the walk is refused, a start is the sum of the lengths of the bars before it: the bars of a segment last equally long, and n equal lengths have the value of one, scaled by n.
use Rattle.std.proofs.Common.{None, Option, Some}
use mathlib.Core.Path.{◌≡◌, refl, sym, ap, ◌∙◌, subst}
use mathlib.Core.Bool.{true, false}
use mathlib.Core.List.{List}
use Prim.Native.Nat.{ℕ, zero, suc, max, ◌+◌, ◌-◌, ◌*◌, ◌<◌, ◌≤◌}
use native.Mathlib.Nat.{zero-mul, add-zero, add-suc, mul-pos}
use native.Mathlib.Omega.{arith}
use lib.IntN.{ℤ, pos, ◌+ℤ◌, ◌*ℤ◌}
use lib.Signed.{le_z}
use Rattle.numbers.specs.Answers.{Answer, accepted, refused, is_accepted, then}
use Rattle.numbers.proofs.Laws.{by_order, down, eq_parts, sum_parts, up_times, down_times, and_left, and_right, not_both, not_negative, grows}
use Rattle.beats.specs.declared.Beat.{Beat}
use Rattle.beats.specs.Beats.{is_beat, zero_beat}
use Rattle.beats.specs.Sums.{storable, add_beats, mul_beat, or_most, below_beat, sum_of}
use Rattle.beats.specs.Values.{Worth}
use Rattle.beats.proofs.Laws.{new_is_beat, own_value, one_beat, beat_above, accepted_beat, accepted_storable, sum_value, scaled_value, same_value, value_forward, zero_beat_lem, own_value_left, sum_beat, sum_is, sum_has, below_values, below_same, not_below}
use Rattle.meter.specs.declared.MeterPoint.{MeterPoint}
use Rattle.meter.specs.Meters.{meter_at, len_of, bar_len, next_change}
use Rattle.meter.specs.Starts.{after_bars, segments, start_of, checked_bars, checked_segments, checked_start, exact_start}
use Rattle.meter.specs.Fits.{forward_pickup}
use Rattle.meter.proofs.Walking.{next_le, next_gt, bars_stopped, len_rest, len_same, segments_end, segments_more, checked_end, checked_more}

-- ---- whole numbers

none_more : (x y : ℤ) → x ≡ x +ℤ y *ℤ pos 0
none_more x y = eq_parts x (x +ℤ y *ℤ pos 0) (omega (arith, sum_parts x (y *ℤ pos 0), up_times y 0, down_times y 0))

one_more : (x y : ℤ) (n : ℕ) → x +ℤ y *ℤ pos n +ℤ y ≡ x +ℤ y *ℤ pos (suc n)
one_more x y n =
    eq_parts (x +ℤ y *ℤ pos n +ℤ y) (x +ℤ y *ℤ pos (suc n))
    (omega (arith, sum_parts (x +ℤ y *ℤ pos n) y, sum_parts x (y *ℤ pos n), sum_parts x (y *ℤ pos (suc n)), up_times y n, down_times y n, up_times y (suc n), down_times y (suc n)))

-- ---- an answer that is accepted was accepted at each step

pub then_accepted : {X : Type 0} (answer : Answer Beat) (next : Beat → Answer Beat) (b : Beat) → then answer next ≡ accepted b → ((c : Beat) → answer ≡ accepted c → next c ≡ accepted b → X) → X
then_accepted (accepted c) next b e k = k c refl e
then_accepted (refused n facts) next b e k = absurd (no e)
  where
    no : refused n facts ≡ accepted b → ⊥
    no q = let z : ◌≡◌ {A = ℕ} 0 1 = cc in omega arith

-- ---- lengths

len_beat : (meter : MeterPoint) → is_beat (len_of meter) ≡ true
unfolding len_of
len_beat meter = new_is_beat (pos (meter.numerator * 4)) meter.denominator

module _ (map : List MeterPoint) (default : ℕ) (pickup : Option Beat) where
  abbrev len : ℕ → Beat
  len = bar_len map default pickup

  abbrev exact : ℕ → Beat
  exact = exact_start map default pickup

  later_beat_lem : (bar : ℕ) → 0 < bar → is_beat (len bar) ≡ true
  later_beat_lem bar h = subst (λ (b : Beat). is_beat b ≡ true) (len_rest map default pickup bar (λ e. omega arith)) (len_beat (meter_at map default bar))

  pub exact_beat : (bar : ℕ) → is_beat (exact_start map default pickup bar) ≡ true
  unfolding exact_start
  exact_beat zero = zero_beat_lem
  exact_beat (suc bar) = sum_beat (exact bar) (len bar)

  -- ---- a segment

  module _ (i : ℕ) (h : 0 < i) where
    abbrev den : ℕ
    den = (exact i).den * (len i).den

    abbrev from : ℤ
    from = (exact i).num *ℤ pos (len i).den

    abbrev each : ℤ
    each = (len i).num *ℤ pos (exact i).den

    exact_above : 0 < (exact i).den
    exact_above = beat_above (exact i) (exact_beat i)

    len_above : 0 < (len i).den
    len_above = beat_above (len i) (later_beat_lem i h)

    -- n bars from bar i on that last as long as bar i, over one denominator
    exact_bars : (n : ℕ) → ((j : ℕ) → i ≤ j → j < i + n → len j ≡ len i) → Worth (exact (i + n)) (from +ℤ each *ℤ pos n) den
    unfolding exact_start
    exact_bars zero same =
        subst (λ (b : Beat). Worth b (from +ℤ each *ℤ pos 0) den) (ap exact (sym (add-zero i)))
        (subst (λ (z : ℤ). Worth (exact i) z den) (none_more from each) (own_value (exact i) (len i).den))
    exact_bars (suc n) same =
        subst (λ (b : Beat). Worth b (from +ℤ each *ℤ pos (suc n)) den) (sym (ap exact (add-suc i n)))
        (subst (λ (z : ℤ). Worth (exact (suc (i + n))) z den) (one_more from each n)
        (sum_has (exact (i + n)) (len (i + n)) (from +ℤ each *ℤ pos n) each den (beat_above (exact (i + n)) (exact_beat (i + n))) (beat_above (len (i + n)) (later_beat_lem (i + n) (omega arith)))
        (exact_bars n (λ j p q. same j p (omega arith)))
        (subst (λ (b : Beat). Worth b each den) (sym (same (i + n) (omega arith) (omega arith))) (own_value_left (len i) (exact i).den))))

    -- its end
    segment_end : (n : ℕ) (c : Beat) → ((j : ℕ) → i ≤ j → j < i + n → len j ≡ len i) → checked_bars (exact i) (len i) n ≡ accepted c → (c ≡ exact (i + n)) × (after_bars (exact i) (len i) n ≡ c)
    unfolding checked_bars
    segment_end n c same e =
        then_accepted (mul_beat (len i) (pos n) 1) (λ span. add_beats (exact i) span) c e
        (λ span p q. (
          one_beat c (exact (i + n)) (from +ℤ each *ℤ pos n) den (mul-pos exact_above len_above) (accepted_beat _ _ c q) (exact_beat (i + n))
              (sum_value (exact i) span c from (each *ℤ pos n) den exact_above (beat_above span (accepted_beat _ _ span p)) (own_value (exact i) (len i).den)
              (scaled_value (len i) span each (pos n) den len_above (own_value_left (len i) (exact i).den) p) q)
              (exact_bars n same),
          bars_stopped (exact i) (len i) n ∙ ap (λ (x : Answer Beat). or_most (add_beats (exact i) (or_most x))) p ∙ ap or_most q,
        ))

  -- the start of the next segment
  next_start : (bar end : ℕ) (at c : Beat) → 0 < bar → bar < end → at ≡ exact bar → checked_bars at (len bar) (next_change map bar end - bar) ≡ accepted c
      → (c ≡ exact (next_change map bar end)) × (after_bars at (len bar) (next_change map bar end - bar) ≡ c)
  next_start bar end at c p l q r =
      let n = next_change map bar end in
      let g : bar < n = next_gt map bar end l in
      let m : bar + (n - bar) ≡ n = omega arith in
      let made = segment_end bar p (n - bar) c (λ j x y. len_same map default pickup bar j end p x (omega arith)) (ap (λ (b : Beat). checked_bars b (len bar) (n - bar)) (sym q) ∙ r) in
      (made.0 ∙ ap exact m, ap (λ (b : Beat). after_bars b (len bar) (n - bar)) q ∙ made.1)

  -- ---- the walk

  walked : (most bar end : ℕ) (at b : Beat) → 0 < bar → bar ≤ end → end - bar ≤ most → at ≡ exact bar → checked_segments map default pickup most bar end at ≡ accepted b
      → (segments map default pickup most bar end at ≡ b) × (b ≡ exact end)
  unfolding segments checked_segments
  walked zero bar end at b p h w q e =
      let s : at ≡ b = cc in
      let n : bar ≡ end = omega arith in
      (s, sym s ∙ q ∙ ap exact n)
  walked (suc most) bar end at b p h w q e =
      by_order bar end
      (λ l. then_accepted (checked_bars at (len bar) (next_change map bar end - bar)) (λ there. checked_segments map default pickup most (next_change map bar end) end there) b
      (sym (checked_more map default pickup most bar end at l) ∙ e)
      (λ c r t.
      let there = next_start bar end at c p l q r in
      let rest = walked most (next_change map bar end) end c b (omega (arith, next_gt map bar end l)) (next_le map bar end) (omega (arith, next_gt map bar end l)) there.0 t in
      (segments_more map default pickup most bar end at l ∙ ap (segments map default pickup most (next_change map bar end) end) there.1 ∙ rest.0, rest.1)))
      (λ l. let s : at ≡ b = sym (same (checked_end map default pickup most bar end at l)) in
      let n : bar ≡ end = omega arith in
      (segments_end map default pickup most bar end at l ∙ s, sym s ∙ q ∙ ap exact n))
    where
      same : checked_segments map default pickup (suc most) bar end at ≡ accepted at → b ≡ at
      same r = cc

  start_accepted : (bar : ℕ) (b : Beat) → checked_start map default pickup bar ≡ accepted b → (start_of map default pickup bar ≡ b) × (b ≡ exact bar)
  unfolding start_of checked_start exact_start
  start_accepted zero b e = let s : zero_beat ≡ b = cc in (s, sym s)
  start_accepted (suc bar) b e =
      then_accepted (add_beats zero_beat (len 0)) (λ one. checked_segments map default pickup (suc bar) 1 (suc bar) one) b e
      (λ one p q.
      let w = walked (suc bar) 1 (suc bar) one b (omega arith) (omega arith) (omega arith) (sum_is zero_beat (len 0) one p) q in
      (ap (λ (x : Answer Beat). segments map default pickup (suc bar) 1 (suc bar) (or_most x)) p ∙ w.0, w.1))

  -- a start is the sum of the lengths before it, where no operation of its walk is refused
  pub start_exact : (bar : ℕ) → is_accepted (checked_start map default pickup bar) ≡ true → start_of map default pickup bar ≡ exact_start map default pickup bar
  start_exact bar e = by_answer (checked_start map default pickup bar) refl e
    where
      by_answer : (x : Answer Beat) → checked_start map default pickup bar ≡ x → is_accepted x ≡ true → start_of map default pickup bar ≡ exact bar
      by_answer (accepted b) p q = let w = start_accepted bar b p in w.0 ∙ w.1
      by_answer (refused n facts) p q = not_both false q refl

  -- ---- what is accepted can be stored

  abbrev Stored : Beat → Type 0
  Stored b = storable b.num b.den ≡ true

  bars_stored : (at each c : Beat) (n : ℕ) → checked_bars at each n ≡ accepted c → Stored c
  unfolding checked_bars
  bars_stored at each c n e = then_accepted (mul_beat each (pos n) 1) (λ span. add_beats at span) c e (λ span p q. accepted_storable _ _ c q)

  segments_stored : (most bar end : ℕ) (at b : Beat) → Stored at → checked_segments map default pickup most bar end at ≡ accepted b → Stored b
  unfolding checked_segments
  segments_stored zero bar end at b s e = let r : at ≡ b = cc in subst Stored r s
  segments_stored (suc most) bar end at b s e =
      by_order bar end
      (λ l. then_accepted (checked_bars at (len bar) (next_change map bar end - bar)) (λ there. checked_segments map default pickup most (next_change map bar end) end there) b
      (sym (checked_more map default pickup most bar end at l) ∙ e)
      (λ c r t. segments_stored most (next_change map bar end) end c b (bars_stored at (len bar) c (next_change map bar end - bar) r) t))
      (λ l. subst Stored (same (checked_end map default pickup most bar end at l)) s)
    where
      same : checked_segments map default pickup (suc most) bar end at ≡ accepted at → at ≡ b
      same r = cc

  stored_accepted : (bar : ℕ) (b : Beat) → checked_start map default pickup bar ≡ accepted b → Stored b
  unfolding checked_start
  stored_accepted zero b e = let r : zero_beat ≡ b = cc in subst Stored r refl
  stored_accepted (suc bar) b e =
      then_accepted (add_beats zero_beat (len 0)) (λ one. checked_segments map default pickup (suc bar) 1 (suc bar) one) b e
      (λ one p q. segments_stored (suc bar) 1 (suc bar) one b (accepted_storable _ _ one p) q)

  -- such a start is within the limits of a beat: the test for overflow comes before the reduction, which only shrinks
  pub start_stored : (bar : ℕ) → is_accepted (checked_start map default pickup bar) ≡ true → storable (start_of map default pickup bar).num (start_of map default pickup bar).den ≡ true
  start_stored bar e = by_answer (checked_start map default pickup bar) refl e
    where
      by_answer : (x : Answer Beat) → checked_start map default pickup bar ≡ x → is_accepted x ≡ true → Stored (start_of map default pickup bar)
      by_answer (accepted b) p q = subst Stored (sym (start_accepted bar b p).0) (stored_accepted bar b p)
      by_answer (refused n facts) p q = not_both false q refl

-- ---- starts never fall, where the pickup is not below 0

len_forward : (meter : MeterPoint) → down (len_of meter).num ≡ 0
unfolding len_of
len_forward meter = value_forward (len_of meter) (meter.numerator * 4) (max meter.denominator 1) (omega arith) (same_value (pos (meter.numerator * 4)) meter.denominator)

module _ (map : List MeterPoint) (default : ℕ) where
  pub forward_beat : (pickup : Option Beat) → forward_pickup pickup ≡ true → (bar : ℕ) → is_beat (bar_len map default pickup bar) ≡ true
  unfolding bar_len
  forward_beat None e zero = len_beat (meter_at map default 0)
  forward_beat (Some beat) e zero = and_left (is_beat beat) (le_z (pos 0) beat.num) e
  forward_beat pickup e (suc bar) = len_beat (meter_at map default (suc bar))

  pub forward_len : (pickup : Option Beat) → forward_pickup pickup ≡ true → (bar : ℕ) → down (bar_len map default pickup bar).num ≡ 0
  unfolding bar_len
  forward_len None e zero = len_forward (meter_at map default 0)
  forward_len (Some beat) e zero = not_negative beat.num (and_right (is_beat beat) (le_z (pos 0) beat.num) e)
  forward_len pickup e (suc bar) = len_forward (meter_at map default (suc bar))

module _ (map : List MeterPoint) (default : ℕ) (pickup : Option Beat) (forward : forward_pickup pickup ≡ true) where
  exact_step : (bar : ℕ) → below_beat (exact map default pickup (suc bar)) (exact map default pickup bar) ≡ false
  unfolding exact_start
  exact_step bar =
      let a = exact map default pickup bar in
      let l = len map default pickup bar in
      let x = a.num *ℤ pos l.den in
      let y = l.num *ℤ pos a.den in
      let d = a.den * l.den in
      let p : 0 < a.den = beat_above a (exact_beat map default pickup bar) in
      let q : 0 < l.den = beat_above l (forward_beat map default pickup forward bar) in
      below_values (sum_of a l) a (x +ℤ y) x d (beat_above (sum_of a l) (sum_beat a l)) p (mul-pos p q) (sum_has a l x y d p q (own_value a l.den) (own_value_left l a.den)) (own_value a l.den)
      ∙ grows x y (down_times l.num a.den ∙ ap (λ (n : ℕ). n * a.den) (forward_len map default pickup forward bar) ∙ zero-mul a.den)

  exact_rises : (i n : ℕ) → below_beat (exact map default pickup (i + n)) (exact map default pickup i) ≡ false
  exact_rises i zero = ap (λ (k : ℕ). below_beat (exact map default pickup k) (exact map default pickup i)) (add-zero i) ∙ below_same (exact map default pickup i)
  exact_rises i (suc n) =
      ap (λ (k : ℕ). below_beat (exact map default pickup k) (exact map default pickup i)) (add-suc i n)
      ∙ not_below (exact map default pickup (i + n)) (exact map default pickup i) (exact map default pickup (suc (i + n)))
      (exact_beat map default pickup (i + n)) (exact_beat map default pickup i) (exact_beat map default pickup (suc (i + n))) (exact_step (i + n)) (exact_rises i n)

  -- no start is below an earlier one
  pub starts_rise : (i j : ℕ) → i ≤ j → is_accepted (checked_start map default pickup i) ≡ true → is_accepted (checked_start map default pickup j) ≡ true
      → below_beat (start_of map default pickup j) (start_of map default pickup i) ≡ false
  starts_rise i j h p q =
      let m : j ≡ i + (j - i) = omega arith in
      (λ t. below_beat (start_exact map default pickup j q t) (start_exact map default pickup i p t))
      ∙ ap (λ (k : ℕ). below_beat (exact map default pickup k) (exact map default pickup i)) m
      ∙ exact_rises i (j - i)
