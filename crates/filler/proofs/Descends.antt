-- Filled lines never descend: starts do not fall, so their floats do not, nor the seconds there, nor the frames.
use Rattle.std.proofs.Common.{◌≡◌, refl, sym, ap, ◌∙◌, subst, Bool, true, false, ◌&&◌, List, [], ◌∷◌, ℕ, zero, suc, ◌+◌, ◌*◌, ◌^◌, ◌≤◌, ◌<◌, le_trans, arith, le-leb, ltb-false, T, leb, lit<, lit≤, ℤ, pos, negsuc, nat_abs, ◌*ℤ◌, Float, length}
use lib.Signed.{lt_z, le_z}
use lib.Ieee.{le}
use lib.Ieee.Scale.{finite}
use Rattle.numbers.specs.Lists.{entries}
use Rattle.numbers.specs.Answers.{Answer, accepted, given}
use Rattle.numbers.specs.Signs.{fits_i64}
use Rattle.numbers.proofs.Laws.{by_order, both, and_right, entries_length}
use Rattle.rounding.specs.Floats.{float0}
use Rattle.rounding.proofs.Laws.{Up, up→le}
use Rattle.beats.specs.declared.Beat.{Beat}
use Rattle.beats.specs.Beats.{is_beat, zero_beat}
use Rattle.beats.specs.Sums.{below_beat}
use Rattle.beats.specs.Frames.{beat_float, frames_at}
use Rattle.beats.proofs.Laws.{beat_above}
use Rattle.meter.specs.Meters.{points_of}
use Rattle.meter.specs.Starts.{start_of, exact_start}
use Rattle.meter.proofs.Laws.{fit_rising, fit_exact, fit_stored, start_zero}
use Rattle.std.specs.Prelude.{Ok}
use Rattle.tempo.specs.Answers.{map_test}
use Rattle.tempo.specs.Tempos.{TempoPoint, tempo_points}
use Rattle.tempo.specs.Rising.{RisingMap}
use Rattle.tempo.proofs.Laws as tempo
use Rattle.tempo.proofs.Laws.{seconds_at_up}
use Rattle.transport.specs.declared.Transport.{Transport}
use Rattle.timeline.specs.Places.{float_of, seconds_of, frame_at_bar}
use Rattle.timeline.proofs.Laws.{bar_frame_lem}
use Rattle.lines.specs.Lines.{ascends_from, ascends, lines_answer}
use Rattle.filler.specs.Fills.{bar_lines}
use Rattle.filler.specs.Promise.{InOrder, LinesPromise}
use Rattle.filler.proofs.Testing.{accepted_known}
use Rattle.filler.proofs.Ordering.{Placed, small_beat, placed_zero, beat_zero, frames_up, own_up}
use Rattle.filler.proofs.Wide.{Dyadic, wide_finite, wide_zero, dyadic_up}
use Rattle.filler.proofs.Sixteenths.{starts_dyadic}
use Rattle.filler.proofs.Rising.{map_rises}

-- ---- frames

-- through the map, or at the own tempo
frame_up : (bpm : Float) (points : List TempoPoint) (rate : ℕ) → RisingMap points → (a b : Float) → T (finite a) → T (finite b) → T (le float0 a) → Up a b
    → frames_at (seconds_of bpm points a) rate ≤ frames_at (seconds_of bpm points b) rate
unfolding seconds_of
frame_up bpm [] rate r a b A B h u = own_up bpm a b rate u
frame_up bpm (first ∷ rest) rate r a b A B h u =
    frames_up (seconds_of bpm (first ∷ rest) a) (seconds_of bpm (first ∷ rest) b) rate (seconds_at_up (first ∷ rest) r a b A B h (up→le a b u))

-- ---- lines

module _ (t : Transport) (words : List ℕ) (nums : List ℤ) (dens tempos : List ℕ) (n : ℕ) (o : InOrder t words nums dens tempos) (m : map_test nums dens tempos ≡ Ok tt) (few : n ≤ 65536) where
  abbrev start : ℕ → Beat
  start bar = start_of (points_of words) t.beats_per_bar t.pickup bar

  -- no start is below an earlier one
  in_turn : (i j : ℕ) → i ≤ j → j < n → below_beat (start j) (start i) ≡ false
  in_turn i j h l = (fit_rising (points_of words) t.beats_per_bar t.pickup o.fits).rises i j h (omega arith)

  beats : (bar : ℕ) → bar < n → is_beat (start bar) ≡ true
  beats bar l = (fit_rising (points_of words) t.beats_per_bar t.pickup o.fits).beats bar (omega arith)

  start_zero_is : zero_beat ≡ start 0
  start_zero_is = start_zero (points_of words) t.beats_per_bar t.pickup 0 refl

  -- the numerators are those of the machine
  abbrev limit : ℕ
  limit = 9223372036854775807

  start_small : (bar : ℕ) → bar < n → small_beat limit (start bar) ≡ true
  start_small bar l =
      let stored = both (fits_i64 (start bar).num) (leb (start bar).den 4294967295) (fit_stored (points_of words) t.beats_per_bar t.pickup o.fits bar (omega arith)) in
      let num = and_right (le_z (negsuc limit) (start bar).num) (le_z (start bar).num (pos limit)) stored.0 in
      λ i. num i && stored.1 i

  start_placed : (bar : ℕ) → bar < n → Placed limit (start bar)
  start_placed bar l = placed_zero limit (start bar) (beat_above (start bar) (beats bar l)) (start_small bar l) (ap (below_beat (start bar)) start_zero_is ∙ in_turn 0 bar (omega arith) l)

  module _ (bar : ℕ) (l : bar < n) where
    abbrev placed : Placed limit (start bar)
    placed = start_placed bar l

    start_finite : T (finite (float_of (start bar)))
    start_finite =
        subst (λ (z : ℤ). T (finite (beat_float z (start bar).den))) (sym placed.is) (wide_finite placed.size (start bar).den (le_trans placed.small (lit≤ tt)) placed.above placed.narrow)

    -- not before beat 0, whatever its denominator
    after_zero : (d : ℕ) → 0 < d → d ≤ 2 ^ 53 → Up (beat_float (pos 0) d) (float_of (start bar))
    after_zero d D L =
        subst (λ (z : ℤ). Up (beat_float (pos 0) d) (beat_float z (start bar).den)) (sym placed.is)
        (wide_zero placed.size (start bar).den (le_trans placed.small (lit≤ tt)) placed.above placed.narrow d D L)

    from_zero : T (le float0 (float_of (start bar)))
    from_zero = subst (λ (x : Float). T (le x (float_of (start bar)))) beat_zero (up→le (beat_float (pos 0) 1) (float_of (start bar)) (after_zero 1 (lit< tt) (lit≤ tt)))

  -- floats in order: by their denominators, which differ by a power of two
  start_up : (i j : ℕ) → i ≤ j → j < n → Up (float_of (start i)) (float_of (start j))
  start_up i j h l = go p.size refl
    where
      k : i < n
      k = omega arith

      p : Placed limit (start i)
      p = start_placed i k

      q : Placed limit (start j)
      q = start_placed j l

      exact_is : (bar : ℕ) → bar < n → start bar ≡ exact_start (points_of words) t.beats_per_bar t.pickup bar
      exact_is bar g = fit_exact (points_of words) t.beats_per_bar t.pickup o.fits bar (omega arith)

      above_zero : (z : ℕ) → p.size ≡ suc z → 0 < i
      above_zero z e = by_order 0 i (λ g. g) (λ g. let i0 : i ≡ 0 = omega arith in
          let none : p.size ≡ 0 = ap nat_abs (sym p.is ∙ ap (λ (b : ℕ). (start b).num) i0 ∙ ap (λ (b : Beat). b.num) (sym start_zero_is)) in
          absurd (omega arith))

      cross : p.size * (start j).den ≤ q.size * (start i).den
      cross = ltb-false (q.size * (start i).den) (p.size * (start j).den) (sym (λ x. lt_z (q.is x *ℤ pos (start i).den) (p.is x *ℤ pos (start j).den)) ∙ in_turn i j h l)

      alike : 0 < i → Dyadic (start i).den (start j).den
      alike g =
          let a = exact_is i k in
          let b = exact_is j l in
          subst (λ (x : Beat). Dyadic (start i).den x.den) (sym b)
          (subst (λ (x : Beat). Dyadic x.den (exact_start (points_of words) t.beats_per_bar t.pickup j).den) (sym a)
          (starts_dyadic (points_of words) t.beats_per_bar t.pickup o.fits.sound i p.size (ap (λ (x : Beat). x.num) (sym a) ∙ p.is) g j q.size h (ap (λ (x : Beat). x.num) (sym b) ∙ q.is)))

      go : (z : ℕ) → p.size ≡ z → Up (float_of (start i)) (float_of (start j))
      go zero e = subst (λ (x : ℤ). Up (beat_float x (start i).den) (float_of (start j))) (sym (p.is ∙ ap pos e)) (after_zero j l (start i).den p.above p.narrow)
      go (suc z) e =
          subst (λ (x : ℤ). Up (beat_float x (start i).den) (float_of (start j))) (sym p.is)
          (subst (λ (x : ℤ). Up (beat_float (pos p.size) (start i).den) (beat_float x (start j).den)) (sym q.is)
          (dyadic_up p.size (start i).den q.size (start j).den (omega arith) (le_trans p.small (lit≤ tt)) (le_trans q.small (lit≤ tt)) p.above q.above p.narrow q.narrow
          (alike (above_zero z e)) cross))

  line_up : (i j : ℕ) → i ≤ j → j < n → frame_at_bar t (points_of words) (tempo_points nums dens tempos) i ≤ frame_at_bar t (points_of words) (tempo_points nums dens tempos) j
  line_up i j h l =
      let points = tempo_points nums dens tempos in
      let a = float_of (start i) in
      let b = float_of (start j) in
      rw (bar_frame_lem t (points_of words) points i, bar_frame_lem t (points_of words) points j)
      (frame_up t.bpm points t.sample_rate (map_rises nums dens tempos (tempo.walkable nums dens tempos m).beats o.sound o.small) a b
      (start_finite i (omega arith)) (start_finite j l) (from_zero i (omega arith)) (start_up i j h l))

-- ---- a list of entries that do not fall

entries_ascend : (ask : ℕ → ℕ) (all : ℕ) → ((i j : ℕ) → i ≤ j → j < all → ask i ≤ ask j) → (n k low : ℕ) → k + n ≤ all → (0 < n → low ≤ ask k) → ascends_from low (entries ask k n) ≡ true
unfolding entries ascends_from
entries_ascend ask all rise zero k low h l = refl
entries_ascend ask all rise (suc n) k low h l =
    ap (λ (b : Bool). b && ascends_from (ask k) (entries ask (suc k) n)) (le-leb low (ask k) (l (omega arith)))
    ∙ entries_ascend ask all rise n (suc k) (ask k) (omega arith) (λ p. rise k (suc k) (omega arith) (omega arith))

-- ---- the promise

fine : (lines : List ℕ) → length lines ≤ 65536 → ascends lines ≡ true → lines_answer lines ≡ accepted tt
fine lines h a = rw (le-leb (length lines) 65536 h, a)

pub lines_keep : LinesPromise
lines_keep t words nums dens tempos out a o =
    let known = accepted_known t words nums dens tempos out a in
    let line = frame_at_bar t (points_of words) (tempo_points nums dens tempos) in
    ap (λ (x : Answer Unit). lines_answer (given (λ u. bar_lines t (points_of words) (tempo_points nums dens tempos) (length out)) x out)) a
    ∙ fine (bar_lines t (points_of words) (tempo_points nums dens tempos) (length out)) (subst (λ (k : ℕ). k ≤ 65536) (sym (entries_length line 0 (length out))) known.1)
    (entries_ascend line (length out) (line_up t words nums dens tempos (length out) o known.0 known.1) (length out) 0 0 (omega arith) (λ h. omega arith))
