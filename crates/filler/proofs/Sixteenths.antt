-- The starts of a score without meter problems have denominators that differ by a power of two alone: every bar but the first lasts a number of sixteenths,
-- so each of two denominators divides sixteen times the other.
use Rattle.std.proofs.Common.{Option, ◌≡◌, refl, sym, ap, ◌∙◌, subst, true, ◌&&◌, inl, inr, List, [], ◌∷◌, ℕ, zero, suc, ◌+◌, ◌-◌, ◌*◌, ◌/◌, ◌%◌, ◌^◌, ◌≤◌, ◌<◌, mul-pos, le_of_mul-le-mul_right, add-suc, add-zero, mul_assoc, mul_right_comm, add-sub_of_le, zero-mul, arith, leb, ltb, lit<, length, ℤ, pos, nat_abs, ◌*ℤ◌, pow_pos, pow-add}
use Prim.Native.Nat.{◌∣◌}
use native.Mathlib.Nat.{eq_of_mul-eq-mul_right, mul-div_cancel', pow-succ', eq-one_of_dvd-one, dvd-mul_right}
use Rattle.numbers.proofs.Laws.{by_order, and_left, and_right}
use Rattle.beats.specs.declared.Beat.{Beat}
use Rattle.beats.specs.Beats.{is_beat}
use Rattle.beats.specs.Values.{Worth}
use Rattle.beats.proofs.Laws.{own_value, value_same, beat_above, beat_lowest, den_divides, sum_has}
use Rattle.meter.specs.declared.MeterPoint.{MeterPoint}
use Rattle.meter.specs.Meters.{later, last_at, fallback, meter_at, bar_len}
use Rattle.meter.specs.Starts.{exact_start}
use Rattle.meter.specs.Fits.{good_den, sound_from, first_zero, sound_map}
use Rattle.meter.proofs.Laws.{exact_beat, good_len, sixteenths, len_rest, later_in, later_out}
use Rattle.filler.proofs.Wide.{Dyadic}

-- ---- powers of two

-- a divisor of a power of two is one
pow_divisor : (s x y : ℕ) → x * y ≡ 2 ^ s → (a : ℕ) × (x ≡ 2 ^ a)
pow_divisor zero x y e = (0, eq-one_of_dvd-one (subst (λ (z : ℕ). x ∣ z) e (dvd-mul_right x y)))
pow_divisor (suc s) x y e =
    by_order (x % 2) 1
    (λ h.
    let ex : x ≡ 2 * (x / 2) = omega arith in
    let w = pow_divisor s (x / 2) y (omega (arith, e, pow-succ' 2 s, ap (λ (z : ℕ). z * y) ex)) in
    (suc w.0, ex ∙ ap (λ (z : ℕ). 2 * z) w.1 ∙ sym (pow-succ' 2 w.0)))
    (λ h.
    let ex : x ≡ 2 * (x / 2) + 1 = omega arith in
    by_order (y % 2) 1
    (λ k.
    let ey : y ≡ 2 * (y / 2) = omega arith in
    pow_divisor s x (y / 2) (omega (arith, e, pow-succ' 2 s, ap (λ (z : ℕ). x * z) ey)))
    (λ k.
    let ey : y ≡ 2 * (y / 2) + 1 = omega arith in
    absurd (odd x y (x / 2) (y / 2) (2 ^ s) ex ey (e ∙ pow-succ' 2 s))))
  where
    odd : (x y a b p : ℕ) → x ≡ 2 * a + 1 → y ≡ 2 * b + 1 → x * y ≡ 2 * p → ⊥
    odd x y a b p ex ey e =
        let f : x * y ≡ (2 * a + 1) * (2 * b + 1) = λ i. ex i * ey i in
        omega arith

-- two numbers each of which divides sixteen times the other
dyadic : (d e : ℕ) → 0 < d → 0 < e → e ∣ d * 16 → d ∣ e * 16 → Dyadic d e
dyadic d e D E u v =
    let x = d * 16 / e in
    let y = e * 16 / d in
    let ex : e * x ≡ d * 16 = mul-div_cancel' e u in
    let ey : d * y ≡ e * 16 = mul-div_cancel' d v in
    let w = pow_divisor 8 x y (eq_of_mul-eq-mul_right d D (x * y) 256 (whole x y ex ey)) in
    let a = w.0 in
    let ea : e * 2 ^ a ≡ d * 16 = ap (λ (z : ℕ). e * z) (sym w.1) ∙ ex in
    by_order 4 a
    (λ h. (a - 4, inr (eq_of_mul-eq-mul_right 16 (lit< tt) d (e * 2 ^ (a - 4)) (sym ea ∙ ap (λ (z : ℕ). e * z) (split a 4 (omega arith)) ∙ sym (mul_assoc e 16 (2 ^ (a - 4))) ∙ mul_right_comm e 16 (2 ^ (a - 4))))))
    (λ h. (4 - a, inl (eq_of_mul-eq-mul_right (2 ^ a) (pow_pos a) e (d * 2 ^ (4 - a)) (ea ∙ ap (λ (z : ℕ). d * z) (split 4 a h) ∙ sym (mul_assoc d (2 ^ a) (2 ^ (4 - a))) ∙ mul_right_comm d (2 ^ a) (2 ^ (4 - a))))))
  where
    whole : (x y : ℕ) → e * x ≡ d * 16 → d * y ≡ e * 16 → x * y * d ≡ 256 * d
    whole x y ex ey = omega (arith, ap (λ (z : ℕ). z * x) ey, ex)

    split : (a b : ℕ) → b ≤ a → 2 ^ a ≡ 2 ^ b * 2 ^ (a - b)
    split a b h = ap (λ (z : ℕ). 2 ^ z) (sym (add-sub_of_le h)) ∙ pow-add 2 b (a - b)

-- ---- lengths in sixteenths

last_good : (map : List MeterPoint) (low bar : ℕ) (found : MeterPoint) → sound_from low map ≡ true → good_den found.denominator ≡ true → good_den (last_at map bar found).denominator ≡ true
unfolding last_at sound_from
last_good [] low bar found s g = g
last_good (point ∷ rest) low bar found s g =
    let more = sound_from (suc point.bar) rest in
    let d = good_den point.denominator in
    let s₂ = and_right (ltb 0 point.numerator) (d && more) (and_right (leb low point.bar) (ltb 0 point.numerator && (d && more)) s) in
    last_good rest (suc point.bar) bar (later point bar found) (and_right d more s₂)
    (by_order bar point.bar
    (λ h. ap (λ (m : MeterPoint). good_den m.denominator) (later_out point bar found h) ∙ g)
    (λ h. ap (λ (m : MeterPoint). good_den m.denominator) (later_in point bar found h) ∙ and_left d more s₂))

module _ (map : List MeterPoint) (default : ℕ) (pickup : Option Beat) (sound : sound_map map ≡ true) where
  abbrev exact : ℕ → Beat
  exact = exact_start map default pickup

  good_meter : (bar : ℕ) → good_den (meter_at map default bar).denominator ≡ true
  unfolding sound_map
  good_meter bar = last_good map 0 bar (fallback default) (and_right (first_zero map) (sound_from 0 map) (and_right (leb (length map) 256) (first_zero map && sound_from 0 map) sound)) refl

  -- a bar after bar 0 is m / 16
  sixteenths_long : (bar : ℕ) → 0 < bar → Worth (bar_len map default pickup bar) (pos (sixteenths (meter_at map default bar))) 16
  sixteenths_long bar h =
      subst (λ (b : Beat). Worth b (pos (sixteenths (meter_at map default bar))) 16) (len_rest map default pickup bar (λ e. omega arith))
      (good_len (meter_at map default bar) (good_meter bar)).value

  later_beat_lem : (bar : ℕ) → 0 < bar → is_beat (bar_len map default pickup bar) ≡ true
  later_beat_lem bar h = subst (λ (b : Beat). is_beat b ≡ true) (len_rest map default pickup bar (λ e. omega arith)) (good_len (meter_at map default bar) (good_meter bar)).fine

  -- ---- from one bar to a later one

  module _ (i n : ℕ) (is : (exact i).num ≡ pos n) (h : 0 < i) where
    abbrev den : ℕ
    den = (exact i).den

    span : (k : ℕ) → (s : ℕ) × Worth (exact (i + k)) (pos (n * 16 + s * den)) (den * 16)
    unfolding exact_start
    span zero = (
      0,
      subst (λ (b : Beat). Worth b (pos (n * 16 + 0 * den)) (den * 16)) (ap exact (sym (add-zero i)))
          (subst (λ (z : ℤ). Worth (exact i) z (den * 16)) (ap (λ (z : ℤ). z *ℤ pos 16) is ∙ ap pos (sym (ap (λ (z : ℕ). n * 16 + z) (zero-mul den) ∙ add-zero (n * 16)))) (own_value (exact i) 16)),
    )
    span (suc k) =
        let w = span k in
        let m = sixteenths (meter_at map default (i + k)) in
        let a = exact (i + k) in
        let l = bar_len map default pickup (i + k) in (
          w.0 + m,
          subst (λ (b : Beat). Worth b (pos (n * 16 + (w.0 + m) * den)) (den * 16)) (sym (ap exact (add-suc i k)))
              (subst (λ (x : ℕ). Worth (exact (suc (i + k))) (pos x) (den * 16)) (more (n * 16) w.0 m den)
              (sum_has a l (pos (n * 16 + w.0 * den)) (pos (m * den)) (den * 16) (beat_above a (exact_beat map default pickup (i + k))) (beat_above l (later_beat_lem (i + k) (omega arith))) w.1
              (value_same l (pos m) (pos (m * den)) 16 (den * 16) (lit< tt) (ap pos (sym (mul_assoc m den 16))) (sixteenths_long (i + k) (omega arith))))),
        )
      where
        more : (a s m d : ℕ) → a + s * d + m * d ≡ a + (s + m) * d
        more a s m d = omega arith

    -- their denominators
    pub starts_dyadic : (j m : ℕ) → i ≤ j → (exact j).num ≡ pos m → Dyadic (exact i).den (exact j).den
    starts_dyadic j m l js =
        let e : i + (j - i) ≡ j = omega arith in
        let w = span (j - i) in
        let v : Worth (exact j) (pos (n * 16 + w.0 * den)) (den * 16) = subst (λ (k : ℕ). Worth (exact k) (pos (n * 16 + w.0 * den)) (den * 16)) e w.1 in
        let other = (exact j).den in
        let D : 0 < den = beat_above (exact i) (exact_beat map default pickup i) in
        let E : 0 < other = beat_above (exact j) (exact_beat map default pickup j) in
        let f : m * (den * 16) ≡ (n * 16 + w.0 * den) * other = ap nat_abs (ap (λ (z : ℤ). z *ℤ pos (den * 16)) (sym js) ∙ v) in
        dyadic den other D E
        (den_divides (exact j) (pos (n * 16 + w.0 * den)) (den * 16) E (mul-pos D (lit< tt)) (beat_lowest (exact j) (exact_beat map default pickup j)) v)
        (den_divides (exact i) (pos (m * 16 - w.0 * other)) (other * 16) D (mul-pos E (lit< tt)) (beat_lowest (exact i) (exact_beat map default pickup i))
        (ap (λ (z : ℤ). z *ℤ pos (other * 16)) is ∙ ap pos (back n m w.0 den other D f)))
      where
        back : (n m s d e : ℕ) → 0 < d → m * (d * 16) ≡ (n * 16 + s * d) * e → n * (e * 16) ≡ (m * 16 - s * e) * d
        back n m s d e D f =
            let l : s * e ≤ m * 16 = le_of_mul-le-mul_right (less n m s d e f) D in
            let g : m * 16 - s * e + s * e ≡ m * 16 = omega arith in
            let k : (m * 16 - s * e + s * e) * d ≡ m * 16 * d = ap (λ (z : ℕ). z * d) g in
            rest n m s d e (m * 16 - s * e) f k
          where
            less : (n m s d e : ℕ) → m * (d * 16) ≡ (n * 16 + s * d) * e → s * e * d ≤ m * 16 * d
            less n m s d e f = omega arith

            rest : (n m s d e y : ℕ) → m * (d * 16) ≡ (n * 16 + s * d) * e → (y + s * e) * d ≡ m * 16 * d → n * (e * 16) ≡ y * d
            rest n m s d e y f k = omega arith
