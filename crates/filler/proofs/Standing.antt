-- The carried segment: from bar to bar it keeps the walk by segments, so that each start is that of its bar asked by itself.
use Rattle.std.proofs.Common.{Option, ◌≡◌, refl, sym, ap, ◌∙◌, subst, true, false, List, ℕ, max, ◌+◌, ◌-◌, ◌*◌, ◌<◌, ◌≤◌, le_refl, arith, eqb, ltb, length, eq-eqb, ne_eqb, eqb-true, ltb-true, ltb-false, le-leb}
use Rattle.std.proofs.lemmas.Bool.{eqb-false, lt-leb}
use Rattle.numbers.proofs.Laws.{by_order}
use Rattle.beats.specs.declared.Beat.{Beat}
use Rattle.beats.specs.Beats.{zero_beat}
use Rattle.beats.specs.Sums.{add_beats, or_most}
use Rattle.meter.specs.Meters.{points_of, len_of, bar_len, next_change}
use Rattle.meter.specs.Starts.{after_bars, segments, start_of}
use Rattle.meter.proofs.Laws.{points_length, len_rest, segments_over, segments_turn, one, start_zero, start_segments}
use Rattle.filler.specs.declared.segments.Segment.{Segment}
use Rattle.filler.specs.Numbers.{mark_of, force_of, numbered}
use Rattle.filler.specs.Carried.{begins, end_of, start_in, Opened, Reaching, Before, Has}
use Rattle.filler.proofs.Numbering.{clear_on, clear_begin, next_here, next_marked, force_none, force_on, force_listed, number_meter}

abbrev pub seg : ℕ → Beat → Beat → ℕ → Segment
seg first at len number = record { first = first; at = at; len = len; number = number }

-- ---- the code's choices

module _ (s : Segment) (bar : ℕ) where
  pub end_first : s.first ≡ 0 → or_most (add_beats s.at s.len) ≡ end_of s bar
  unfolding end_of
  end_first e = rw (eq-eqb s.first 0 e)

  pub end_later : (s.first ≡ 0 → ⊥) → after_bars s.at s.len (bar - s.first) ≡ end_of s bar
  unfolding end_of
  end_later e = rw (ne_eqb s.first 0 e)

  pub start_own : bar ≡ s.first → s.at ≡ start_in s bar
  unfolding start_in
  start_own e = rw (eq-eqb bar s.first e)

  pub start_later : (bar ≡ s.first → ⊥) → after_bars s.at s.len (bar - s.first) ≡ start_in s bar
  unfolding start_in
  start_later e = rw (ne_eqb bar s.first e)

module _ (bar mark : ℕ) where
  pub begins_first : bar ≤ 1 → begins bar mark ≡ eqb bar 1
  begins_first h = rw (le-leb bar 1 h)

  pub begins_later : 1 < bar → begins bar mark ≡ ltb 0 mark
  begins_later h = rw (lt-leb bar 1 h)

-- ---- from bar to bar

module _ (words : List ℕ) (default : ℕ) (pickup : Option Beat) where
  pub at_open : (at len : Beat) → at ≡ zero_beat → len ≡ bar_len (points_of words) default pickup 0 → Before (points_of words) default pickup 0 (seg 0 at len 0)
  at_open at len p q =
      record {
        number = sym (force_none 0 (points_of words) 0);
        opened = λ h. record { first = refl; at = p; len = q };
        reaching = λ h. absurd (omega arith);
      }

  module _ (bar mark : ℕ) (s : Segment) (b : Before (points_of words) default pickup bar s) (is : mark ≡ mark_of (points_of words) bar) where
    -- the segment begins no later than the bar
    pub begun : s.first ≤ bar
    begun = by_order 1 bar (λ h. let r = b.reaching h in omega (arith, r.below)) (λ h. let o = b.opened h in omega (arith, o.first))

    numbers : max s.number mark ≡ force_of (points_of words) (bar + 1)
    numbers = (λ i. max (b.number i) (is i)) ∙ sym (force_on (points_of words) bar)

    pub number_within : (number : ℕ) → number ≡ max s.number mark → number * 3 ≤ length words
    number_within number e =
        let h : number ≤ length (points_of words) = subst (λ (n : ℕ). n ≤ length (points_of words)) (sym (e ∙ numbers)) (force_listed (points_of words) (bar + 1)) in
        omega (arith, points_length words)

    -- ---- a new segment

    module _ (h : 0 < bar) (at len : Beat) (number : ℕ) (n : number ≡ max s.number mark) (l : len ≡ len_of (numbered words default number)) where
      new : ((end : ℕ) → bar ≤ end → segments (points_of words) default pickup (end - bar) bar end at ≡ start_of (points_of words) default pickup end)
          → Has (points_of words) default pickup bar (seg bar at len number)
      new walks =
          record {
            next =
                record {
                  number = n ∙ numbers;
                  opened = λ k. absurd (omega arith);
                  reaching = λ k. record {
                    above = h;
                    below = omega arith;
                    clear = clear_begin (points_of words) bar;
                    len =
                        l
                        ∙ ap (λ (x : ℕ). len_of (numbered words default x)) (n ∙ numbers)
                        ∙ ap len_of (sym (number_meter words default bar))
                        ∙ len_rest (points_of words) default pickup bar (λ e. omega arith);
                    walks = walks;
                  };
                };
            start =
                sym (start_own (seg bar at len number) bar refl)
                ∙ sym (segments_over (points_of words) default pickup (bar - bar) bar bar at (le_refl bar))
                ∙ walks bar (le_refl bar);
          }

      -- bar 1
      new_first : bar ≡ 1 → at ≡ end_of s bar → Has (points_of words) default pickup bar (seg bar at len number)
      new_first e a = new walks
        where
          o : Opened (points_of words) default pickup s
          o = b.opened (omega arith)

          is_one : at ≡ one (points_of words) default pickup
          is_one = a ∙ sym (end_first s bar o.first) ∙ (λ i. or_most (add_beats (o.at i) (o.len i)))

          walks : (end : ℕ) → bar ≤ end → segments (points_of words) default pickup (end - bar) bar end at ≡ start_of (points_of words) default pickup end
          walks end k =
              (λ i. segments (points_of words) default pickup (end - e i) (e i) end (is_one i))
              ∙ start_segments (points_of words) default pickup end (omega arith)

      -- a bar that a point is listed for
      new_marked : 1 < bar → 0 < mark → at ≡ end_of s bar → Has (points_of words) default pickup bar (seg bar at len number)
      new_marked k m a = new walks
        where
          r : Reaching (points_of words) default pickup bar s
          r = b.reaching k

          is_end : at ≡ after_bars s.at (bar_len (points_of words) default pickup s.first) (bar - s.first)
          is_end = a ∙ sym (end_later s bar (λ e. omega (arith, r.above))) ∙ ap (λ (x : Beat). after_bars s.at x (bar - s.first)) r.len

          walks : (end : ℕ) → bar ≤ end → segments (points_of words) default pickup (end - bar) bar end at ≡ start_of (points_of words) default pickup end
          walks end g =
              let u : s.first < bar = r.below in
              let c : next_change (points_of words) s.first end ≡ bar = next_marked (points_of words) s.first bar end r.clear r.below g (subst (λ (x : ℕ). 0 < x) is m) in
              ap (segments (points_of words) default pickup (end - bar) bar end) is_end
              ∙ sym (ap (λ (x : ℕ). segments (points_of words) default pickup (end - x) x end (after_bars s.at (bar_len (points_of words) default pickup s.first) (x - s.first))) c)
              ∙ sym (segments_turn (points_of words) default pickup s.first end s.at (omega arith))
              ∙ r.walks end (omega arith)

    pub has_new : (at len : Beat) (number : ℕ) → number ≡ max s.number mark → len ≡ len_of (numbered words default number) → begins bar mark ≡ true → at ≡ end_of s bar
        → Has (points_of words) default pickup bar (seg bar at len number)
    has_new at len number n l t a =
        by_order 1 bar
        (λ k. new_marked (omega arith) at len number n l k (ltb-true 0 mark (sym (begins_later bar mark k) ∙ t)) a)
        (λ k.
        let e : bar ≡ 1 = eqb-true bar 1 (sym (begins_first bar mark k) ∙ t) in
        new_first (omega arith) at len number n l e a)

    -- ---- the same segment, with the number in force

    module _ (number : ℕ) (n : number ≡ max s.number mark) where
      -- bar 0
      same_first : bar ≡ 0 → Has (points_of words) default pickup bar (seg s.first s.at s.len number)
      same_first e =
          let o = b.opened (omega arith) in
          record {
            next = record { number = n ∙ numbers; opened = λ k. record { first = o.first; at = o.at; len = o.len }; reaching = λ k. absurd (omega arith) };
            start = sym (start_own (seg s.first s.at s.len number) bar (e ∙ sym o.first)) ∙ o.at ∙ start_zero (points_of words) default pickup bar e;
          }

      -- a bar that none is listed for
      same_clear : 1 < bar → mark ≡ 0 → Has (points_of words) default pickup bar (seg s.first s.at s.len number)
      same_clear k m =
          let r = b.reaching k in
          let u : s.first < bar = r.below in
          record {
            next =
                record {
                  number = n ∙ numbers;
                  opened = λ g. absurd (omega arith);
                  reaching = λ g. record {
                    above = r.above;
                    below = omega arith;
                    clear = clear_on (points_of words) s.first bar (sym is ∙ m) r.clear;
                    len = r.len;
                    walks = r.walks;
                  };
                };
            start =
                sym (start_later (seg s.first s.at s.len number) bar (λ e. omega arith))
                ∙ ap (λ (x : Beat). after_bars s.at x (bar - s.first)) r.len
                ∙ sym (segments_over (points_of words) default pickup (bar - bar) bar bar (after_bars s.at (bar_len (points_of words) default pickup s.first) (bar - s.first)) (le_refl bar))
                ∙ sym (ap (λ (x : ℕ). segments (points_of words) default pickup (bar - x) x bar (after_bars s.at (bar_len (points_of words) default pickup s.first) (x - s.first)))
                (next_here (points_of words) s.first bar r.clear u))
                ∙ sym (segments_turn (points_of words) default pickup s.first bar s.at u)
                ∙ r.walks bar (omega arith);
          }

    pub has_same : (number : ℕ) → number ≡ max s.number mark → begins bar mark ≡ false → Has (points_of words) default pickup bar (seg s.first s.at s.len number)
    has_same number n t =
        by_order 1 bar
        (λ k. let m : mark ≤ 0 = ltb-false 0 mark (sym (begins_later bar mark k) ∙ t) in same_clear number n k (omega arith))
        (λ k. let e : bar ≡ 1 → ⊥ = eqb-false bar 1 (sym (begins_first bar mark k) ∙ t) in same_first number n (omega (arith, e)))

-- a segment that has a bar begins no later
pub within : (words : List ℕ) (default : ℕ) (pickup : Option Beat) (bar : ℕ) (s : Segment) → Has (points_of words) default pickup bar s → s.first ≤ bar
within words default pickup bar s has =
    by_order 0 bar
    (λ h. let r = has.next.reaching (omega arith) in omega (arith, r.below))
    (λ h. let o = has.next.opened (omega arith) in omega (arith, o.first))
