-- Within one segment the last two starts decide: one of them lies an odd number of bars on, and no start before that one works with larger numbers.
use mathlib.Core.Path.{◌≡◌, refl, sym, ap, ◌∙◌}
use mathlib.Core.Bool.{true}
use Prim.Native.Nat.{ℕ, ◌+◌, ◌-◌, ◌*◌, ◌<◌, ◌≤◌, ◌∣◌}
use native.Mathlib.Nat.{le_refl, le_trans, add-le-add, mul-pos, mul-le-mul_left, mul-le-mul_right}
use native.Mathlib.Omega.{arith}
use lib.Dec.{leb}
use lib.IntN.{ℤ, pos, negsuc, ◌*ℤ◌, ◌+ℤ◌}
use lib.Signed.{le_z}
use borrow.Author.Tests.{leb-true}
use Rattle.numbers.specs.Answers.{Answer, accepted, refused, is_accepted, then}
use Rattle.numbers.specs.Signs.{fits_i64}
use Rattle.numbers.proofs.Laws.{never, by_order, up, down, up_times, and_left, and_right, natural}
use Rattle.beats.specs.declared.Beat.{Beat}
use Rattle.beats.specs.Beats.{is_beat}
use Rattle.beats.specs.Sums.{fitted, add_beats, mul_beat}
use Rattle.beats.specs.Values.{Worth}
use Rattle.beats.proofs.Laws.{den_divides, beat_above, beat_lowest, accepted_beat, accepted_value, accepted_fits, scaled_value, scaled, added, value_forward}
use Rattle.meter.specs.declared.MeterPoint.{MeterPoint}
use Rattle.meter.specs.Meters.{len_of}
use Rattle.meter.specs.Starts.{checked_bars}
use Rattle.meter.specs.Fits.{good_den}
use Rattle.meter.proofs.Laws.{then_accepted, sixteenths, good_len}
use Rattle.fits.proofs.Odd.{odd_den, odd_num, by_parity}

-- ---- accepted answers

pub accepted_some : {X : Type 0} (answer : Answer Beat) → is_accepted answer ≡ true → ((beat : Beat) → answer ≡ accepted beat → X) → X
accepted_some (accepted beat) e k = k beat refl
accepted_some (refused n facts) e k = never e

-- the two numbers of an accepted beat were within the limits
fitted_small : (n d : ℕ) (c : Beat) → fitted (pos n) d ≡ accepted c → (n ≤ 9223372036854775807) × (d ≤ 4294967295)
fitted_small n d c e =
    let f = accepted_fits (pos n) d c e in
    let g = and_left (fits_i64 (pos n)) (leb d 4294967295) f in (
      leb-true n 9223372036854775807 (and_right (le_z (negsuc 9223372036854775807) (pos n)) (le_z (pos n) (pos 9223372036854775807)) g),
      leb-true d 4294967295 (and_right (fits_i64 (pos n)) (leb d 4294967295) f),
    )

-- ---- beats that are not below 0

pub record Forward (beat : Beat) : Type 0 where
  pub fine : is_beat beat ≡ true
  pub ahead : down beat.num ≡ 0

pub sum_forward : (a b c : Beat) → Forward a → Forward b → add_beats a b ≡ accepted c → Forward c
sum_forward a b c p q e =
    let n = up a.num * b.den + up b.num * a.den in
    let d = a.den * b.den in
    let h : 0 < d = mul-pos (beat_above a p.fine) (beat_above b q.fine) in
    let r : fitted (pos n) d ≡ accepted c
    = sym (λ i. fitted (natural a.num p.ahead i *ℤ pos b.den +ℤ natural b.num q.ahead i *ℤ pos a.den) d) ∙ e in
    record { fine = accepted_beat _ _ c e; ahead = value_forward c n d h (accepted_value (pos n) d c h r) }

scale_forward : (a c : Beat) (k : ℕ) → Forward a → mul_beat a (pos k) 1 ≡ accepted c → Forward c
scale_forward a c k p e =
    let n = up a.num * k in
    let d = a.den * 1 in
    let above = beat_above a p.fine in
    let h : 0 < d = omega arith in
    let r : fitted (pos n) d ≡ accepted c = sym (ap (λ (z : ℤ). fitted (z *ℤ pos k) d) (natural a.num p.ahead)) ∙ e in
    record { fine = accepted_beat _ _ c e; ahead = value_forward c n d h (accepted_value (pos n) d c h r) }

pub bars_forward : (at len c : Beat) (n : ℕ) → Forward at → Forward len → checked_bars at len n ≡ accepted c → Forward c
unfolding checked_bars
bars_forward at len c n p q e =
    then_accepted (mul_beat len (pos n) 1) (λ span. add_beats at span) c e (λ span es ec. sum_forward at span c p (scale_forward len span n q es) ec)

-- a bar of a meter without problems
module _ (meter : MeterPoint) (good : good_den meter.denominator ≡ true) where
  pub len_forward : Forward (len_of meter)
  len_forward =
      let i = good_len meter good in
      record { fine = i.fine; ahead = value_forward (len_of meter) (sixteenths meter) 16 (omega arith) i.value }

  pub len_power : (len_of meter).den ∣ 16
  len_power =
      let i = good_len meter good in
      den_divides (len_of meter) (pos (sixteenths meter)) 16 (beat_above (len_of meter) i.fine) (omega arith) (beat_lowest (len_of meter) i.fine) i.value

-- ---- bars of one length, n / d, after a beat s / e

abbrev beat_of : ℕ → ℕ → Beat
beat_of num den = record { num = pos num; den = den }

-- the numbers of the walk to the start k bars on, as large as they can be, are within the limits
record Room (s e n d k : ℕ) : Type 0 where
  scaling : n * k ≤ 9223372036854775807
  den : d ≤ 4294967295
  sum : s * d + n * k * e ≤ 9223372036854775807
  dens : e * d ≤ 4294967295

less_room : (s e n d k r : ℕ) → r ≤ k → Room s e n d k → Room s e n d r
less_room s e n d k r h room =
    let l : n * r ≤ n * k = mul-le-mul_left n h in
    record {
      scaling = le_trans l room.scaling;
      den = room.den;
      sum = le_trans (add-le-add (le_refl (s * d)) (mul-le-mul_right e l)) room.sum;
      dens = room.dens;
    }

module _ (s e n d : ℕ) (fa : is_beat (beat_of s e) ≡ true) (fl : is_beat (beat_of n d) ≡ true) (p : d ∣ 16) where
  abbrev from : Beat
  from = beat_of s e

  abbrev each : Beat
  each = beat_of n d

  -- with room for it, a start is accepted
  roomy : (k : ℕ) → Room s e n d k → is_accepted (checked_bars from each k) ≡ true
  unfolding checked_bars
  roomy k room =
      let span = scaled each n d k (beat_above each fl) (record { fine = fl; value = refl }) room.scaling room.den in
      let there = added from span.0 s (n * k) e d (beat_above from fa) (beat_above each fl) (record { fine = fa; value = refl }) span.1.1 room.sum room.dens in
      ap is_accepted (ap (λ (x : Answer Beat). then x (λ b. add_beats from b)) span.1.0 ∙ there.1.0)

  -- and an odd number of bars on it is accepted only with room
  odd_room : (q : ℕ) (span c : Beat) → mul_beat each (pos (2 * q + 1)) 1 ≡ accepted span → add_beats from span ≡ accepted c → Room s e n d (2 * q + 1)
  odd_room q span c es ec =
      let k = 2 * q + 1 in
      let u = up span.num in
      let m = span.den in
      let a = fitted_small (n * k) (d * 1) span es in
      let a₁ = a.1 in
      let hm : 0 < m = beat_above span (accepted_beat _ _ span es) in
      let hd : 0 < d = beat_above each fl in
      let v : Worth span (pos (n * k)) d = scaled_value each span (pos n) (pos k) d hd refl es in
      let w : span.num ≡ pos u = natural span.num (value_forward span (n * k) d hd v) in
      let b = fitted_small (s * m + u * e) (e * m) c (sym (ap (λ (z : ℤ). fitted (pos s *ℤ pos m +ℤ z *ℤ pos e) (e * m)) w) ∙ ec) in
      let x : u * d ≡ n * k * m = sym (up_times span.num d) ∙ ap up v in
      let g : d ≤ m = odd_den n d u m q hd hm (beat_lowest each fl) p x in
      let h : n * k ≤ u = odd_num n d u m q hd hm (beat_lowest each fl) p x in
      record {
        scaling = a.0;
        den = omega arith;
        sum = le_trans (add-le-add (mul-le-mul_left s g) (mul-le-mul_right e h)) b.0;
        dens = le_trans (mul-le-mul_left e g) b.1;
      }

  odd_decides : (q r : ℕ) → r ≤ 2 * q + 1 → is_accepted (checked_bars from each (2 * q + 1)) ≡ true → is_accepted (checked_bars from each r) ≡ true
  unfolding checked_bars
  odd_decides q r h t =
      accepted_some (checked_bars from each (2 * q + 1)) t (λ c ec.
      then_accepted (mul_beat each (pos (2 * q + 1)) 1) (λ b. add_beats from b) c ec (λ span es eb.
      roomy r (less_room s e n d (2 * q + 1) r h (odd_room q span c es eb))))

-- ---- the same of any beats that are not below 0

module _ (at len : Beat) (a : Forward at) (l : Forward len) (p : len.den ∣ 16) where
  same : (beat : Beat) → Forward beat → beat ≡ beat_of (up beat.num) beat.den
  same beat f = λ i. record { num = natural beat.num f.ahead i; den = beat.den }

  both : (k : ℕ) → is_accepted (checked_bars at len k) ≡ is_accepted (checked_bars (beat_of (up at.num) at.den) (beat_of (up len.num) len.den) k)
  both k = λ i. is_accepted (checked_bars (same at a i) (same len l i) k)

  pub odd_bars : (q r : ℕ) → r ≤ 2 * q + 1 → is_accepted (checked_bars at len (2 * q + 1)) ≡ true → is_accepted (checked_bars at len r) ≡ true
  odd_bars q r h t =
      both r
      ∙ odd_decides (up at.num) at.den (up len.num) len.den (ap is_beat (sym (same at a)) ∙ a.fine) (ap is_beat (sym (same len l)) ∙ l.fine) p q r h
      (sym (both (2 * q + 1)) ∙ t)

  -- the last two starts decide
  pub last_two : (k r : ℕ) → 0 < k → r ≤ k → is_accepted (checked_bars at len (k - 1)) ≡ true → is_accepted (checked_bars at len k) ≡ true → is_accepted (checked_bars at len r) ≡ true
  last_two k r h g before last =
      by_parity k
      (λ q e. by_order r k
      (λ j. let m : k - 1 ≡ 2 * (q - 1) + 1 = omega arith in
      odd_bars (q - 1) r (omega arith) (sym (ap (λ (x : ℕ). is_accepted (checked_bars at len x)) m) ∙ before))
      (λ j. let m : r ≡ k = omega arith in ap (λ (x : ℕ). is_accepted (checked_bars at len x)) m ∙ last))
      (λ q e. odd_bars q r (omega arith) (sym (ap (λ (x : ℕ). is_accepted (checked_bars at len x)) e) ∙ last))

  -- the start before the last is accepted where each one behind a bar is
  pub one_before : (k : ℕ) → 0 < k → ((r : ℕ) → 0 < r → r ≤ k → is_accepted (checked_bars at len r) ≡ true) → is_accepted (checked_bars at len (k - 1)) ≡ true
  one_before k h f =
      by_order 1 k
      (λ j. f (k - 1) (omega arith) (omega arith))
      (λ j. let m : k - 1 ≡ 0 = omega arith in ap (λ (x : ℕ). is_accepted (checked_bars at len x)) m ∙ odd_bars 0 0 (omega arith) (f 1 (omega arith) h))
