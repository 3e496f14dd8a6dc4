-- The bounds suffice: with the pickup's denominator p, each start is z / (16 p) and each bar w / 16 for small z and w, so that no operation of the walk leaves its limits.
use Rattle.std.proofs.Common.{None, Option, Some}
use mathlib.Core.Path.{◌≡◌, refl, sym, ap, ◌∙◌, subst}
use mathlib.Core.Bool.{true, ◌&&◌}
use mathlib.Core.List.{List, [], ◌∷◌}
use Prim.Native.Nat.{ℕ, zero, suc, ◌+◌, ◌-◌, ◌*◌, ◌/◌, ◌%◌, ◌<◌, ◌≤◌, ◌^◌}
use native.Mathlib.Nat.{add-zero, add-le-add, div-add-mod', div-le_self, le_trans, mul_comm, mul-pos, mul-le-mul, mul-le-mul_right}
use native.Mathlib.Omega.{arith}
use lib.Dec.{leb, ltb, eqb, lit<}
use lib.IntN.{ℤ, pos, ◌*ℤ◌}
use lib.Signed.{le_z}
use lib.ListN.{length}
use borrow.Author.Tests.{leb-true, ltb-true, eqb-true}
use Rattle.numbers.specs.Answers.{Answer, accepted, is_accepted, then}
use Rattle.numbers.proofs.Laws.{by_order, up, and_left, and_right, not_negative, natural}
use Rattle.beats.specs.declared.Beat.{Beat}
use Rattle.beats.specs.Beats.{is_beat, zero_beat}
use Rattle.beats.specs.Sums.{add_beats}
use Rattle.beats.specs.Values.{Worth}
use Rattle.beats.proofs.Laws.{Is, is_same, scaled, added, new_is_beat, new_value, own_value, beat_above, zero_beat_lem}
use Rattle.meter.specs.declared.MeterPoint.{MeterPoint}
use Rattle.meter.specs.Meters.{later, last_at, fallback, meter_at, len_of, bar_len, next_change}
use Rattle.meter.specs.Starts.{checked_bars, checked_segments, checked_start}
use Rattle.meter.specs.Fits.{good_den, sound_from, first_zero, sound_map, forward_pickup, numerators_up_to, small_pickup}
use Rattle.meter.specs.Promise.{BoundsPromise}
use Rattle.meter.proofs.Walking.{next_le, next_gt, later_in, later_out, len_rest, checked_end, checked_more}

-- ---- the meters

record Good (meter : MeterPoint) : Type 0 where
  small : meter.numerator ≤ 4096
  den : good_den meter.denominator ≡ true

later_good : (point : MeterPoint) (bar : ℕ) (found : MeterPoint) → Good point → Good found → Good (later point bar found)
later_good point bar found p g =
    by_order bar point.bar (λ h. subst Good (sym (later_out point bar found h)) g) (λ h. subst Good (sym (later_in point bar found h)) p)

last_good : (map : List MeterPoint) (low bar : ℕ) (found : MeterPoint) → sound_from low map ≡ true → numerators_up_to 4096 map ≡ true → Good found → Good (last_at map bar found)
unfolding last_at sound_from numerators_up_to
last_good [] low bar found s t g = g
last_good (point ∷ rest) low bar found s t g =
    let more = sound_from (suc point.bar) rest in
    let d = good_den point.denominator in
    let n = leb point.numerator 4096 in
    let s₂ = and_right (ltb 0 point.numerator) (d && more) (and_right (leb low point.bar) (ltb 0 point.numerator && (d && more)) s) in
    last_good rest (suc point.bar) bar (later point bar found) (and_right d more s₂) (and_right n (numerators_up_to 4096 rest) t)
    (later_good point bar found (record { small = leb-true point.numerator 4096 (and_left n (numerators_up_to 4096 rest) t); den = and_left d more s₂ }) g)

-- a bar, in sixteenths
abbrev pub sixteenths : MeterPoint → ℕ
sixteenths meter = meter.numerator * (64 / meter.denominator)

pub good_len : (meter : MeterPoint) → good_den meter.denominator ≡ true → Is (len_of meter) (sixteenths meter) 16
unfolding len_of
good_len meter g =
    let n = meter.numerator in
    let d = meter.denominator in
    let h : 0 < d = ltb-true 0 d (and_left (ltb 0 d) (eqb (64 % d) 0) g) in
    let r : 64 % d ≡ 0 = eqb-true (64 % d) 0 (and_right (ltb 0 d) (eqb (64 % d) 0) g) in
    let e : 64 / d * d ≡ 64 = sym (add-zero (64 / d * d)) ∙ ap (λ (x : ℕ). 64 / d * d + x) (sym r) ∙ div-add-mod' 64 d in
    is_same (n * 4) (sixteenths meter) d 16 h (whole n d (64 / d) e) (record { fine = new_is_beat (pos (n * 4)) d; value = new_value (pos (n * 4)) d h })
  where
    whole : (n d q : ℕ) → q * d ≡ 64 → n * 4 * 16 ≡ n * q * d
    whole n d q e = omega (arith, ap (λ (x : ℕ). n * x) e)

good_size : (meter : MeterPoint) → Good meter → sixteenths meter ≤ 262144
good_size meter g = mul-le-mul {n₂ = 4096} {m₂ = 64} g.small (div-le_self 64 meter.denominator)

-- ---- room for a walk whose starts are z / (16 p) with z up to Z, and whose bars last up to W sixteenths

record Room (p W Z : ℕ) : Type 0 where
  above : 0 < p
  scaling : W * 2147483648 ≤ 9223372036854775807
  dens : 16 * p * 16 ≤ 4294967295
  sums : Z * 16 + W * 2147483648 * (16 * p) ≤ 9223372036854775807

-- what is used of the room, and what is left of it
left_over : (Z z x W p t n u : ℕ) → z + W * p * t ≤ Z → t ≡ n + u → x ≤ W * n * p → z + x + W * p * u ≤ Z
left_over Z z x W p t n u h e k = omega (arith, ap (λ (y : ℕ). W * p * y) e)

module _ (p W Z : ℕ) (room : Room p W Z) where
  -- a start, and n bars of w sixteenths
  bars_fit : (at len : Beat) (z w n : ℕ) → Is at z (16 * p) → Is len w 16 → z ≤ Z → w ≤ W → n ≤ 2147483648
      → (c : Beat) × ((checked_bars at len n ≡ accepted c) × Is c (z + w * n * p) (16 * p))
  unfolding checked_bars
  bars_fit at len z w n ia il hz hw hn =
      let hp = room.above in
      let wn : w * n ≤ W * 2147483648 = mul-le-mul hw hn in
      let span = scaled len w 16 n (lit< tt) il (le_trans wn room.scaling) (omega arith) in
      let h : 0 < 16 * p = omega arith in
      let sum = added at span.0 z (w * n) (16 * p) 16 h (lit< tt) ia span.1.1 (le_trans (add-le-add (mul-le-mul_right 16 hz) (mul-le-mul_right (16 * p) wn)) room.sums) room.dens in (
        sum.0,
        (
          ap (λ (x : Answer Beat). then x (λ b. add_beats at b)) span.1.0 ∙ sum.1.0,
          is_same (z * 16 + w * n * (16 * p)) (z + w * n * p) (16 * p * 16) (16 * p) (mul-pos h (lit< tt)) (reduced z (w * n) p) sum.1.1,
        ),
      )
    where
      reduced : (x y k : ℕ) → (x * 16 + y * (16 * k)) * (16 * k) ≡ (x + y * k) * (16 * k * 16)
      reduced x y k = omega arith

  module _ (map : List MeterPoint) (default : ℕ) (pickup : Option Beat) (good : (bar : ℕ) → good_den (meter_at map default bar).denominator ≡ true) (size : (bar : ℕ) → sixteenths (meter_at map default bar) ≤ W) where
    sure : (most bar end : ℕ) (at : Beat) (z : ℕ) → Is at z (16 * p) → 0 < bar → bar ≤ end → end ≤ 2147483648 → z + W * p * (end - bar) ≤ Z
        → is_accepted (checked_segments map default pickup most bar end at) ≡ true
    unfolding checked_segments
    sure zero bar end at z i hb he hl hz = refl
    sure (suc most) bar end at z i hb he hl hz =
        by_order bar end
        (λ l.
        let meter = meter_at map default bar in
        let w = sixteenths meter in
        let next = next_change map bar end in
        let n = next - bar in
        let g : bar < next = next_gt map bar end l in
        let k : next ≤ end = next_le map bar end in
        let e : end - bar ≡ n + (end - next) = omega arith in
        let x : w * n * p ≤ W * n * p = mul-le-mul_right p (mul-le-mul_right n (size bar)) in
        let il : Is (bar_len map default pickup bar) w 16 = subst (λ (b : Beat). Is b w 16) (len_rest map default pickup bar (λ q. omega arith)) (good_len meter (good bar)) in
        let there = bars_fit at (bar_len map default pickup bar) z w n i il (omega arith) (size bar) (omega arith) in
        ap is_accepted (checked_more map default pickup most bar end at l ∙ ap (λ (y : Answer Beat). then y (λ b. checked_segments map default pickup most next end b)) there.1.0)
        ∙ sure most next end there.0 (z + w * n * p) there.1.1 (omega arith) k hl (left_over Z z (w * n * p) W p (end - bar) n (end - next) hz e x))
        (λ l. ap is_accepted (checked_end map default pickup most bar end at l))

    -- from what bar 0 lasts on
    sure_start : (z bar : ℕ) → Is (bar_len map default pickup 0) z (16 * p) → bar ≤ 2147483648 → z + W * p * bar ≤ Z → is_accepted (checked_start map default pickup bar) ≡ true
    unfolding checked_start
    sure_start z zero i hb hz = refl
    sure_start z (suc bar) i hb hz =
        let hp = room.above in
        let rs = room.sums in
        let rd = room.dens in
        let h : 0 < 16 * p = omega arith in
        let one = added zero_beat (bar_len map default pickup 0) 0 z 1 (16 * p) (lit< tt) h (record { fine = zero_beat_lem; value = refl }) i (omega arith) (omega arith) in
        ap (λ (x : Answer Beat). is_accepted (then x (λ at. checked_segments map default pickup (suc bar) 1 (suc bar) at))) one.1.0
        ∙ sure (suc bar) 1 (suc bar) one.0 z (is_same (0 * (16 * p) + z * 1) z (1 * (16 * p)) (16 * p) (omega arith) (plain z p) one.1.1) (omega arith) (omega arith) hb (one_less Z z W p bar hz)
      where
        plain : (x k : ℕ) → (0 * (16 * k) + x * 1) * (16 * k) ≡ x * (1 * (16 * k))
        plain x k = omega arith

        one_less : (Z z W p bar : ℕ) → z + W * p * suc bar ≤ Z → z + W * p * (suc bar - 1) ≤ Z
        one_less Z z W p bar h =
            let e : suc bar - 1 ≡ bar = omega arith in
            rw e (omega arith)

-- ---- the bounds suffice

default_good : (default : ℕ) → default ≤ 4096 → Good (fallback default)
default_good default h = record { small = omega arith; den = refl }

room : (p : ℕ) → 0 < p → p ≤ 64 → Room p 262144 (2 ^ 56)
room p h k = record { above = h; scaling = omega arith; dens = omega arith; sums = omega arith }

module _ (map : List MeterPoint) (default : ℕ) (sound : sound_map map ≡ true) (numerators : numerators_up_to 4096 map ≡ true) (small : default ≤ 4096) where
  meters : (bar : ℕ) → Good (meter_at map default bar)
  unfolding sound_map
  meters bar =
      last_good map 0 bar (fallback default)
      (and_right (first_zero map) (sound_from 0 map) (and_right (leb (length map) 256) (first_zero map && sound_from 0 map) sound)) numerators (default_good default small)

  size : (bar : ℕ) → sixteenths (meter_at map default bar) ≤ 262144
  size bar = good_size (meter_at map default bar) (meters bar)

  walks : (pickup : Option Beat) → forward_pickup pickup ≡ true → small_pickup pickup ≡ true → (bar : ℕ) → bar ≤ 2147483648 → is_accepted (checked_start map default pickup bar) ≡ true
  unfolding bar_len
  walks None s t bar h =
      sure_start 1 262144 (2 ^ 56) (room 1 (omega arith) (omega arith)) map default None (λ j. (meters j).den) size
      (sixteenths (meter_at map default 0)) bar (good_len (meter_at map default 0) (meters 0).den) h (omega (arith, size 0))
  walks (Some beat) s t bar h =
      let fine = and_left (is_beat beat) (le_z (pos 0) beat.num) s in
      let u = up beat.num in
      let d = leb-true beat.den 64 (and_left (leb beat.den 64) (le_z beat.num (pos (2 ^ 45 * beat.den))) t) in
      let e : beat.num ≡ pos u = natural beat.num (not_negative beat.num (and_right (is_beat beat) (le_z (pos 0) beat.num) s)) in
      let l : u ≤ 2 ^ 45 * beat.den
      = leb-true u (2 ^ 45 * beat.den) (sym (ap (λ (x : ℤ). le_z x (pos (2 ^ 45 * beat.den))) e) ∙ and_right (leb beat.den 64) (le_z beat.num (pos (2 ^ 45 * beat.den))) t) in
      let v : beat.den * bar ≤ 64 * 2147483648 = mul-le-mul d h in
      let o : Worth beat (pos (u * 16)) (beat.den * 16) = subst (λ (z : ℤ). Worth beat (z *ℤ pos 16) (beat.den * 16)) e (own_value beat 16) in
      sure_start beat.den 262144 (2 ^ 56) (room beat.den (beat_above beat fine) d) map default (Some beat) (λ j. (meters j).den) size
      (u * 16) bar (record { fine = fine; value = subst (λ (k : ℕ). Worth beat (pos (u * 16)) k) (mul_comm beat.den 16) o }) h (omega arith)

-- a score within the bounds fits
pub suffices : BoundsPromise
suffices map default pickup sound forward numerators small few =
    record { sound = sound; forward = forward; walks = walks map default sound numerators small pickup forward few }
