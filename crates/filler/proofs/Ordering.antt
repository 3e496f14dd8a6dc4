-- From seconds that do not fall to frames that do not fall, and from beats in exact order to floats in order.
use Rattle.std.proofs.Common.{◌≡◌, refl, sym, ap, ◌∙◌, subst, Bool, true, false, ◌&&◌, ℕ, zero, suc, ◌-◌, ◌*◌, ◌^◌, ◌≤◌, ◌<◌, zero-le, le_refl, le_of_eq, le_trans, not-le_of_lt, mul-pos, mul-one, mul-le-mul_left, zero-mul, arith, ℤ, pos, negsuc, ◌*ℤ◌, T, leb, ltb, ltb→lt, lt→ltb, lit<, lit≤, ltb-true, ltb-false, leb-true, Float}
use lib.Signed.{lt_z, le_z}
use lib.Ieee.{nan, inf, fin, binary64, is_nan, of_bits, lt, unlike, up, down, round, mul, div, of_int, to_unsigned}
use lib.Ieee.Fits.{up_pos, down_pos}
use lib.Ieee.Exact.{HasValue}
use lib.Ieee.Back.{round_whole}
use lib.Ieee.Scale.{round_same, finite}
use Rattle.numbers.proofs.Laws.{lt_parts, parts_lt, up_times, down_times, and_left, and_right}
use Rattle.rounding.specs.Floats.{round_away, maximum, float0, float1}
use Rattle.rounding.proofs.Laws.{max_positive, quotient_is, round_rises, Up, up→le, not_zero, mul_up, round_own, round_up}
use Rattle.beats.specs.declared.Beat.{Beat}
use Rattle.beats.specs.Beats.{zero_beat}
use Rattle.beats.specs.Sums.{below_beat}
use Rattle.beats.specs.Frames.{float60, beat_float, seconds_at, frames_at}
use Rattle.tempo.proofs.Laws.{seconds_up}
use Rattle.timeline.specs.Places.{own_tempo}

-- ---- seconds times the rate

abbrev frames_by : Float → Float → ℕ
frames_by seconds rate = to_unsigned 64 (round_away (mul binary64 seconds rate))

-- at the rate 0 every frame is 0, that of an infinity too, which times 0 is a NaN
none : (x y : Float) (g : ℤ) → Up x y → frames_by x (fin false 0 g) ≡ 0
unfolding mul to_unsigned round_away round
none nan y g h = absurd h
none (inf true) y g h = absurd h
none (inf false) y g h = refl
none (fin true m e) y g h = absurd h
none (fin false m e) y g h =
    ap (λ (z : Float). to_unsigned 64 (round_away z)) (round_same binary64 false (m * up e * (0 * up g)) (down e * down g) 0 1 (mul-pos (down_pos e) (down_pos g)) (lit< tt) (go (m * up e) (up g) (down e * down g)))
  where
    go : (a b c : ℕ) → a * (0 * b) * 1 ≡ 0 * c
    go a b c = omega arith

above : (n : ℕ) → T (ltb 0 (suc n))
above n = lt→ltb 0 (suc n) (omega arith)

-- at an infinite one a second is 2 ^ 64 - 1 frames, and none are 0
unbounded : (x y : Float) → Up x y → frames_by x (inf false) ≤ frames_by y (inf false)
unfolding mul to_unsigned round_away
unbounded nan y h = absurd h
unbounded (inf true) y h = absurd h
unbounded (inf false) nan h = absurd h
unbounded (inf false) (inf true) h = absurd h
unbounded (inf false) (inf false) h = le_refl (2 ^ 64 - 1)
unbounded (inf false) (fin t n d) h = absurd h
unbounded (fin true m e) y h = absurd h
unbounded (fin false zero e) y h = zero-le
unbounded (fin false (suc m) e) nan h = absurd h
unbounded (fin false (suc m) e) (inf true) h = absurd h
unbounded (fin false (suc m) e) (inf false) h = rw (not_zero (suc m) (above m)) (le_refl (2 ^ 64 - 1))
unbounded (fin false (suc m) e) (fin true n d) h = absurd h
unbounded (fin false (suc m) e) (fin false zero d) h =
    absurd (not-le_of_lt (mul-pos (mul-pos (ltb→lt 0 (suc m) (above m)) (up_pos e)) (down_pos d)) (le_trans h (le_of_eq (ap (λ (z : ℕ). z * down e) (zero-mul (up d)) ∙ zero-mul (down e)))))
unbounded (fin false (suc m) e) (fin false (suc n) d) h = rw (not_zero (suc m) (above m), not_zero (suc n) (above n)) (le_refl (2 ^ 64 - 1))

by_rate : (x y rate : Float) → Up rate rate → Up x y → frames_by x rate ≤ frames_by y rate
by_rate x y nan r h = absurd r
by_rate x y (inf true) r h = absurd r
by_rate x y (inf false) r h = unbounded x y h
by_rate x y (fin true o g) r h = absurd r
by_rate x y (fin false zero g) r h = le_trans (le_of_eq (none x y g h)) zero-le
by_rate x y (fin false (suc o) g) r h =
    let rate = fin false (suc o) g in
    round_rises 64 (mul binary64 x rate) (mul binary64 y rate) (up→le (mul binary64 x rate) (mul binary64 y rate) (mul_up binary64 x y rate (above o) h))

pub frames_up : (x y : Float) (rate : ℕ) → Up x y → frames_at x rate ≤ frames_at y rate
unfolding of_int
frames_up x y rate h = by_rate x y (round binary64 false rate 1) (round_own binary64 rate 1) h

-- ---- at the own tempo

-- no seconds are no frames
no_time : (s : Bool) (rate : Float) → Up rate rate → frames_by (fin s 0 (pos 0)) rate ≡ 0
unfolding mul to_unsigned round_away round
no_time s nan r = absurd r
no_time s (inf true) r = absurd r
no_time s (inf false) r = refl
no_time s (fin true o g) r = absurd r
no_time s (fin false o g) r =
    ap (λ (z : Float). to_unsigned 64 (round_away z)) (round_same binary64 (unlike s false) (0 * up (pos 0) * (o * up g)) (down (pos 0) * down g) 0 1 (mul-pos (down_pos (pos 0)) (down_pos g)) (lit< tt) (go (o * up g) (down (pos 0) * down g)))
    ∙ either s
  where
    go : (a b : ℕ) → 0 * up (pos 0) * a * 1 ≡ 0 * b
    go a b = omega arith

    either : (s : Bool) → to_unsigned 64 (round_away (round binary64 (unlike s false) 0 1)) ≡ 0
    either true = refl
    either false = refl

-- at an infinite tempo every beat is at once
at_once : (x : Float) (rate : ℕ) → frames_at (div binary64 x (inf false)) rate ≡ 0
unfolding of_int div mul to_unsigned round_away
at_once nan rate = refl
at_once (inf s) rate = refl
at_once (fin s m e) rate = no_time (unlike s false) (round binary64 false rate 1) (round_own binary64 rate 1)

pub own_up : (bpm a b : Float) (rate : ℕ) → Up a b → frames_at (seconds_at a (own_tempo bpm)) rate ≤ frames_at (seconds_at b (own_tempo bpm)) rate
unfolding maximum is_nan lt of_bits
own_up bpm a b rate h = go bpm refl
  where
    other : (x : Float) → bpm ≡ x → (Up (inf false) x → ⊥) → frames_at (seconds_at a (own_tempo bpm)) rate ≤ frames_at (seconds_at b (own_tempo bpm)) rate
    other x e never =
        frames_up (seconds_at a (own_tempo bpm)) (seconds_at b (own_tempo bpm)) rate
        (seconds_up a b (own_tempo bpm) (max_positive bpm float1 tt (λ f. never (subst (λ (y : Float). Up (inf false) y) (sym f ∙ e) tt))) h)

    go : (x : Float) → bpm ≡ x → frames_at (seconds_at a (own_tempo bpm)) rate ≤ frames_at (seconds_at b (own_tempo bpm)) rate
    go nan e = other nan e (λ u. u)
    go (inf true) e = other (inf true) e (λ u. u)
    go (inf false) e = rw e (le_of_eq (at_once (mul binary64 a float60) rate ∙ sym (at_once (mul binary64 b float60) rate)))
    go (fin s m g) e = other (fin s m g) e (λ u. u)

-- ---- beats

-- a beat with a numerator up to 2 ^ 53 is its fraction, rounded once
pub beat_is : (n d : ℕ) → n ≤ 2 ^ 53 → 0 < d → d ≤ 2 ^ 53 → beat_float (pos n) d ≡ round binary64 false n d
unfolding of_int
beat_is n d N D L =
    quotient_is binary64 (round binary64 false n 1) (round binary64 false d 1) n 1 d D (lit< tt) (round_whole binary64 false n N) (round_whole binary64 false d L)
    ∙ ap (round binary64 false n) (mul-one d)

-- so it keeps the order
pub beat_up : (n d n' d' : ℕ) → n ≤ 2 ^ 53 → n' ≤ 2 ^ 53 → 0 < d → 0 < d' → d ≤ 2 ^ 53 → d' ≤ 2 ^ 53 → n * d' ≤ n' * d → Up (beat_float (pos n) d) (beat_float (pos n') d')
beat_up n d n' d' N N' D D' L L' h =
    subst (λ (z : Float). Up z (beat_float (pos n') d')) (sym (beat_is n d N D L))
    (subst (λ (z : Float). Up (round binary64 false n d) z) (sym (beat_is n' d' N' D' L'))
    (round_up binary64 n d n' d' D D' h))

-- what is at most a finite value is finite
pub finite_under : (x y : Float) → T (finite y) → Up x y → T (finite x)
finite_under nan y F h = absurd h
finite_under (inf true) y F h = absurd h
finite_under (inf false) nan F h = absurd h
finite_under (inf false) (inf true) F h = absurd h
finite_under (inf false) (inf false) F h = F
finite_under (inf false) (fin t n d) F h = absurd h
finite_under (fin s m e) y F h = tt

of_finite : (x : Float) (s : Bool) (a c : ℕ) → HasValue x s a c → T (finite x)
of_finite nan s a c h = absurd h
of_finite (inf t) s a c h = absurd h
of_finite (fin t m e) s a c h = tt

pub beat_finite : (n d : ℕ) → n ≤ 2 ^ 53 → 0 < d → d ≤ 2 ^ 53 → T (finite (beat_float (pos n) d))
beat_finite n d N D L =
    finite_under (beat_float (pos n) d) (beat_float (pos n) 1)
    (subst (λ (z : Float). T (finite z)) (sym (beat_is n 1 N (lit< tt) (lit≤ tt))) (of_finite (round binary64 false n 1) false n 1 (round_whole binary64 false n N)))
    (beat_up n d n 1 N N D (lit< tt) L (lit≤ tt) (mul-le-mul_left n D))

-- beat 0
pub beat_zero : beat_float (pos 0) 1 ≡ float0
unfolding of_int div round
beat_zero = refl

-- ---- the same of beats as they stand: a beat that is not below 0, with a numerator up to `most`

pub record Placed (most : ℕ) (beat : Beat) : Type 0 where
  pub size : ℕ
  pub is : beat.num ≡ pos size
  pub small : size ≤ most
  pub above : 0 < beat.den
  pub narrow : beat.den ≤ 2 ^ 53

-- 2 ^ 53
abbrev pub exactly : ℕ
exactly = 9007199254740992

pub zero_placed : Placed exactly zero_beat
zero_placed = record { size = 0; is = refl; small = lit≤ tt; above = lit< tt; narrow = lit≤ tt }

pub placed_finite : (a : Beat) → Placed exactly a → T (finite (beat_float a.num a.den))
placed_finite a p = subst (λ (z : ℤ). T (finite (beat_float z a.den))) (sym p.is) (beat_finite p.size a.den (le_trans p.small (lit≤ tt)) p.above p.narrow)

module _ (a b : Beat) (p : Placed exactly a) (q : Placed exactly b) where
  placed_cross : p.size * b.den ≤ q.size * a.den → Up (beat_float a.num a.den) (beat_float b.num b.den)
  placed_cross h =
      rw (p.is, q.is) (beat_up p.size a.den q.size b.den (le_trans p.small (lit≤ tt)) (le_trans q.small (lit≤ tt)) p.above q.above p.narrow q.narrow h)

  -- of two, the one that is not below the other has the float that is not below the other's
  pub placed_up : below_beat b a ≡ false → Up (beat_float a.num a.den) (beat_float b.num b.den)
  placed_up h = placed_cross (ltb-false (q.size * a.den) (p.size * b.den) (sym (λ i. lt_z (q.is i *ℤ pos a.den) (p.is i *ℤ pos b.den)) ∙ h))

  pub placed_below : below_beat a b ≡ true → Up (beat_float a.num a.den) (beat_float b.num b.den)
  placed_below h =
      let l : p.size * b.den < q.size * a.den = ltb-true (p.size * b.den) (q.size * a.den) (sym (λ i. lt_z (p.is i *ℤ pos b.den) (q.is i *ℤ pos a.den)) ∙ h) in
      placed_cross (omega arith)

-- ---- which beats are

-- a numerator of at most `most` and a denominator of 32 bits
abbrev pub small_beat : ℕ → Beat → Bool
small_beat most beat = le_z beat.num (pos most) && leb beat.den 4294967295

module _ (most : ℕ) (a : Beat) (d : 0 < a.den) (s : small_beat most a ≡ true) where
  placed_unless : ((n : ℕ) → a.num ≡ negsuc n → ⊥) → Placed most a
  placed_unless never = go a.num refl
    where
      go : (z : ℤ) → a.num ≡ z → Placed most a
      go (pos n) e = record {
        size = n;
        is = e;
        small = leb-true n most (ap (λ (z : ℤ). le_z z (pos most)) (sym e) ∙ and_left (le_z a.num (pos most)) (leb a.den 4294967295) s);
        above = d;
        narrow = le_trans (leb-true a.den 4294967295 (and_right (le_z a.num (pos most)) (leb a.den 4294967295) s)) (lit≤ tt);
      }
      go (negsuc n) e = absurd (never n e)

  -- one that is not below 0
  pub placed_zero : below_beat a zero_beat ≡ false → Placed most a
  placed_zero h =
      placed_unless (λ n e. subst T (ap (λ (z : ℤ). lt_z (z *ℤ pos 1) (pos 0 *ℤ pos a.den)) (sym e) ∙ h)
      (parts_lt (negsuc n *ℤ pos 1) (pos 0 *ℤ pos a.den) (omega (arith, up_times (negsuc n) 1, down_times (negsuc n) 1, up_times (pos 0) a.den, down_times (pos 0) a.den))))

  -- one that is above such a beat
  pub placed_after : (b : Beat) → Placed most b → below_beat b a ≡ true → Placed most a
  placed_after b p h =
      placed_unless (λ n e.
      let l = lt_parts (pos p.size *ℤ pos a.den) (negsuc n *ℤ pos b.den) (subst T (sym (sym (λ i. lt_z (p.is i *ℤ pos a.den) (e i *ℤ pos b.den)) ∙ h)) tt) in
      omega (arith, l, up_times (negsuc n) b.den, down_times (pos p.size) a.den))
