-- Where a place is known to lie: one look at a line cuts the bracket there, as lines ascend.
use Rattle.std.proofs.Common.{◌≡◌, refl, ap, Bool, true, false, cond, List, ℕ, ◌+◌, ◌-◌, ◌*◌, ◌≤◌, ◌<◌, zero-le, le_refl, le_trans, lt_of_le_of_lt, arith, ltb-true, ltb-false, ltb, length, get_or}
use Rattle.lines.specs.Lines.{ascends}
use Rattle.lines.specs.Places.{Splits, Bracket}
use Rattle.lines.proofs.Order.{ordered}

module _ (frame : ℕ) (lines : List ℕ) where
  -- somewhere in the list
  pub anywhere : Bracket frame lines 0 (length lines)
  anywhere = record { between = zero-le; within = le_refl (length lines); below = λ k h. absurd (omega arith); from = λ k h g. absurd (omega arith) }

  -- not before the place of an earlier frame
  pub no_earlier : (start place : ℕ) → start ≤ frame → Splits start lines place → Bracket frame lines place (length lines)
  no_earlier start place h s = record {
    between = s.within;
    within = le_refl (length lines);
    below = λ k l. omega (arith, s.below k l);
    from = λ k l g. absurd (omega arith);
  }

  module _ (low high : ℕ) (b : Bracket frame lines low high) where
    -- a bracket with no line inside
    pub closed : high ≤ low → Splits frame lines low
    closed h = record { within = omega (arith, b.between, b.within); below = b.below; from = λ k l g. b.from k (omega (arith, b.between)) g }

    -- less is known
    pub wider : (least most : ℕ) → least ≤ low → high ≤ most → most ≤ length lines → Bracket frame lines least most
    wider least most h l w = record {
      between = omega (arith, b.between);
      within = w;
      below = λ k m. b.below k (omega arith);
      from = λ k m g. b.from k (omega arith) g;
    }

    module _ (up : ascends lines ≡ true) (at : ℕ) where
      -- behind a line that is below the frame
      pub behind : at < high → get_or lines at 0 < frame → Bracket frame lines (at + 1) high
      behind h t = record {
        between = omega arith;
        within = b.within;
        below = λ k l. lt_of_le_of_lt (ordered 0 lines up k at (omega arith) (omega (arith, b.within))) t;
        from = b.from;
      }

      -- up to a line that is not
      pub up_to : low ≤ at → at ≤ length lines → frame ≤ get_or lines at 0 → Bracket frame lines low at
      up_to h w t = record {
        between = h;
        within = w;
        below = b.below;
        from = λ k l g. le_trans t (ordered 0 lines up at k l g);
      }

-- ---- what looks find, as numbers

module _ (frame : ℕ) (lines : List ℕ) (up : ascends lines ≡ true) (place size : ℕ) (b : Bracket frame lines place (place + size)) where
  abbrev below_at : ℕ → Bool
  below_at at = ltb (get_or lines at 0) frame

  by_look : 0 < size → (n : ℕ) (x : Bool) → below_at place ≡ x → n ≡ cond x 1 0 → Bracket frame lines (place + n) (place + n + (size - 1))
  by_look h n true e i =
      wider frame lines _ _ (behind frame lines _ _ b up place (omega arith) (ltb-true _ _ e)) _ _ (omega arith) (omega arith) (omega (arith, b.within))
  by_look h n false e i =
      wider frame lines _ _ (up_to frame lines _ _ b up place (omega arith) (omega (arith, b.within)) (ltb-false _ _ e)) _ _ (omega arith) (omega arith) (omega (arith, b.within))

  -- at the first line
  pub one_look : 0 < size → (n : ℕ) → n ≡ cond (below_at place) 1 0 → Bracket frame lines (place + n) (place + n + (size - 1))
  one_look h n i = by_look h n (below_at place) refl i

  -- at the last line of each of three parts
  module _ (part : ℕ) (some : 1 ≤ part) (few : 3 * part ≤ size) (quarter : 4 * part ≤ size + 1) where
    module _ (p q r : ℕ) (p-is : p + 1 ≡ place + part) (q-is : q ≡ p + part) (r-is : r ≡ q + part) where
      inside : r < length lines
      inside = omega (arith, b.within)

      p_q : get_or lines p 0 ≤ get_or lines q 0
      p_q = ordered 0 lines up p q (omega arith) (omega (arith, inside))

      q_r : get_or lines q 0 ≤ get_or lines r 0
      q_r = ordered 0 lines up q r (omega arith) (omega (arith, inside))

      by_looks : (n : ℕ) (x y z : Bool) → below_at p ≡ x → below_at q ≡ y → below_at r ≡ z → n ≡ cond x 1 0 + cond y 1 0 + cond z 1 0 →
          Bracket frame lines (place + part * n) (place + part * n + (size - 3 * part))
      by_looks n true true true e f g i =
          let t : part * n ≡ part * 3 = ap (λ (m : ℕ). part * m) i in
          wider frame lines _ _ (behind frame lines _ _ b up r (omega arith) (ltb-true _ _ g)) _ _ (omega arith) (omega arith) (omega (arith, b.within))
      by_looks n true true false e f g i =
          let t : part * n ≡ part * 2 = ap (λ (m : ℕ). part * m) i in
          let u = behind frame lines _ _ b up q (omega arith) (ltb-true _ _ f) in
          wider frame lines _ _ (up_to frame lines _ _ u up r (omega arith) (omega (arith, inside)) (ltb-false _ _ g)) _ _ (omega arith) (omega arith) (omega (arith, b.within))
      by_looks n true false false e f g i =
          let t : part * n ≡ part * 1 = ap (λ (m : ℕ). part * m) i in
          let u = behind frame lines _ _ b up p (omega arith) (ltb-true _ _ e) in
          wider frame lines _ _ (up_to frame lines _ _ u up q (omega arith) (omega (arith, inside)) (ltb-false _ _ f)) _ _ (omega arith) (omega arith) (omega (arith, b.within))
      by_looks n false false false e f g i =
          let t : part * n ≡ part * 0 = ap (λ (m : ℕ). part * m) i in
          wider frame lines _ _ (up_to frame lines _ _ b up p (omega arith) (omega (arith, inside)) (ltb-false _ _ e)) _ _ (omega arith) (omega arith) (omega (arith, b.within))
      by_looks n true false true e f g i = absurd (omega (arith, q_r, ltb-false (get_or lines q 0) frame f, ltb-true (get_or lines r 0) frame g))
      by_looks n false false true e f g i = absurd (omega (arith, q_r, ltb-false (get_or lines q 0) frame f, ltb-true (get_or lines r 0) frame g))
      by_looks n false true z e f g i = absurd (omega (arith, p_q, ltb-false (get_or lines p 0) frame e, ltb-true (get_or lines q 0) frame f))

      pub three_looks : (x y z : ℕ) → x ≡ cond (below_at p) 1 0 → y ≡ cond (below_at q) 1 0 → z ≡ cond (below_at r) 1 0 →
          Bracket frame lines (place + part * (x + y + z)) (place + part * (x + y + z) + (size - 3 * part))
      three_looks x y z i j k = by_looks (x + y + z) (below_at p) (below_at q) (below_at r) refl refl refl (cc)
