-- Accepted sums, differences and multiples have the exact value. Numbers over one denominator add, and compare, as their numerators do.
use Rattle.std.proofs.Common.{◌≡◌, ℕ, ◌*◌, ◌<◌, max, Bool, true, false, cond, ◌&&◌, List, [], ℤ, pos, ◌+ℤ◌, ◌-ℤ◌, ◌*ℤ◌, nat_abs, sym, refl, ap, ◌∙◌, subst, mul_comm, mul-pos, mul-one, arith, lt-ltb, eq-eqb}
use Rattle.numbers.specs.Answers.{accepted, refused}
use Rattle.numbers.specs.Divisor.{gcd_of}
use Rattle.numbers.proofs.Laws.{times_times, swapped, swapped_signed, sum_times, gap_times, times_cancel}
use Rattle.beats.specs.declared.Beat.{Beat}
use Rattle.beats.specs.Beats.{new_beat, is_beat}
use Rattle.beats.specs.Sums.{storable, fitted, add_beats, sub_beats, mul_beat}
use Rattle.beats.specs.Values.{Worth}
use Rattle.beats.proofs.Lowest.{lowest_terms, den_pos, new_storable, same_value, same_beat}
use Rattle.beats.proofs.Refusing.{beat_above, beat_lowest}

-- ---- what `new` makes

pub new_is_beat : (num : ℤ) (den : ℕ) → is_beat (new_beat num den) ≡ true
new_is_beat num den = λ i. lt-ltb 0 (new_beat num den).den (den_pos num den) i && eq-eqb (gcd_of (nat_abs (new_beat num den).num) (new_beat num den).den) 1 (lowest_terms num den) i

pub new_value : (num : ℤ) (den : ℕ) → 0 < den → Worth (new_beat num den) num den
new_value num den above =
    let m : max den 1 ≡ den = omega arith in
    subst (λ (k : ℕ). (new_beat num den).num *ℤ pos k ≡ num *ℤ pos (new_beat num den).den) m (same_value num den)

-- ---- values

-- a beat over its own denominator, and over a multiple of it
pub own_value : (beat : Beat) (k : ℕ) → Worth beat (beat.num *ℤ pos k) (beat.den * k)
own_value beat k = sym (times_times beat.num beat.den k) ∙ swapped beat.num beat.den k

pub own_value_left : (beat : Beat) (k : ℕ) → Worth beat (beat.num *ℤ pos k) (k * beat.den)
own_value_left beat k = subst (λ (d : ℕ). Worth beat (beat.num *ℤ pos k) d) (mul_comm beat.den k) (own_value beat k)

-- num / den and n / d are one number
pub value_same : (beat : Beat) (num n : ℤ) (den d : ℕ) → 0 < den → num *ℤ pos d ≡ n *ℤ pos den → Worth beat num den → Worth beat n d
value_same beat num n den d above e v =
    times_cancel (beat.num *ℤ pos d) (n *ℤ pos beat.den) den above
    (swapped beat.num d den
    ∙ ap (λ (z : ℤ). z *ℤ pos d) v
    ∙ swapped num beat.den d
    ∙ ap (λ (z : ℤ). z *ℤ pos beat.den) e
    ∙ swapped n den beat.den)

-- two beats with one value are the same two numbers
pub one_beat : (a b : Beat) (num : ℤ) (den : ℕ) → 0 < den → is_beat a ≡ true → is_beat b ≡ true → Worth a num den → Worth b num den → a ≡ b
one_beat a b num den above p q v w =
    same_beat a b (beat_above a p) (beat_above b q) (beat_lowest a p) (beat_lowest b q)
    (times_cancel (a.num *ℤ pos b.den) (b.num *ℤ pos a.den) den above
    (swapped a.num b.den den
    ∙ ap (λ (z : ℤ). z *ℤ pos b.den) v
    ∙ swapped num a.den b.den
    ∙ ap (λ (z : ℤ). z *ℤ pos a.den) (sym w)
    ∙ swapped b.num den a.den))

-- ---- what is accepted, and when

chosen : (fine : Bool) (made : Beat) (n : ℕ) (c : Beat) → cond fine (accepted made) (refused n []) ≡ accepted c → (fine ≡ true) × (c ≡ made)
chosen true made n c e = (refl, cc)
chosen false made n c e = let z : ◌≡◌ {A = ℕ} 0 1 = cc in (cc, cc)

left_out : (fine : Bool) (made : Beat) (n m : ℕ) (facts : List ℕ) → cond fine (accepted made) (refused n []) ≡ refused m facts → fine ≡ false
left_out true made n m facts e = cc
left_out false made n m facts e = refl

module _ (num : ℤ) (den : ℕ) where
  pub accepted_fits : (c : Beat) → fitted num den ≡ accepted c → storable num den ≡ true
  unfolding fitted
  accepted_fits c e = (chosen (storable num den) (new_beat num den) 2 c e).0

  pub accepted_is : (c : Beat) → fitted num den ≡ accepted c → c ≡ new_beat num den
  unfolding fitted
  accepted_is c e = (chosen (storable num den) (new_beat num den) 2 c e).1

  -- refused exactly where the two numbers do not fit as they stand (`unfit` of Fitted is the other way)
  pub refused_unfit : (n : ℕ) (facts : List ℕ) → fitted num den ≡ refused n facts → storable num den ≡ false
  unfolding fitted
  refused_unfit n facts e = left_out (storable num den) (new_beat num den) 2 n facts e

  pub accepted_beat : (c : Beat) → fitted num den ≡ accepted c → is_beat c ≡ true
  accepted_beat c e = ap is_beat (accepted_is c e) ∙ new_is_beat num den

  -- it stays within the limits, since reducing only shrinks
  pub accepted_storable : (c : Beat) → fitted num den ≡ accepted c → storable c.num c.den ≡ true
  accepted_storable c e = ap (λ (b : Beat). storable b.num b.den) (accepted_is c e) ∙ new_storable num den (accepted_fits c e)

  pub accepted_value : (c : Beat) → 0 < den → fitted num den ≡ accepted c → Worth c num den
  accepted_value c above e = subst (λ (b : Beat). Worth b num den) (sym (accepted_is c e)) (new_value num den above)

-- ---- sums and differences

-- `op` is a sum or a difference: a factor may be taken into both of its sides
abbrev pub Spreads : (ℤ → ℤ → ℤ) → Type 0
Spreads op = (x y : ℤ) (k : ℕ) → op x y *ℤ pos k ≡ op (x *ℤ pos k) (y *ℤ pos k)

module _ (op : ℤ → ℤ → ℤ) (spreads : Spreads op) (a b : Beat) (x y : ℤ) (d : ℕ) (v : Worth a x d) (w : Worth b y d) where
  -- what is worked out of the cross products has the value of what is worked out of x and y
  pub cross : op (a.num *ℤ pos b.den) (b.num *ℤ pos a.den) *ℤ pos d ≡ op x y *ℤ pos (a.den * b.den)
  cross =
      spreads (a.num *ℤ pos b.den) (b.num *ℤ pos a.den) d
      ∙ (λ i. op (one i) (two i))
      ∙ sym (spreads x y (a.den * b.den))
    where
      one : a.num *ℤ pos b.den *ℤ pos d ≡ x *ℤ pos (a.den * b.den)
      one = swapped a.num b.den d ∙ ap (λ (z : ℤ). z *ℤ pos b.den) v ∙ times_times x a.den b.den

      two : b.num *ℤ pos a.den *ℤ pos d ≡ y *ℤ pos (a.den * b.den)
      two =
          swapped b.num a.den d
          ∙ ap (λ (z : ℤ). z *ℤ pos a.den) w
          ∙ times_times y b.den a.den
          ∙ ap (λ (k : ℕ). y *ℤ pos k) (mul_comm b.den a.den)

  worked_value : (c : Beat) → 0 < a.den → 0 < b.den → fitted (op (a.num *ℤ pos b.den) (b.num *ℤ pos a.den)) (a.den * b.den) ≡ accepted c → Worth c (op x y) d
  worked_value c p q e =
      value_same c (op (a.num *ℤ pos b.den) (b.num *ℤ pos a.den)) (op x y) (a.den * b.den) d (mul-pos p q) cross
      (accepted_value (op (a.num *ℤ pos b.den) (b.num *ℤ pos a.den)) (a.den * b.den) c (mul-pos p q) e)

-- x / d and y / d have the sum (x + y) / d and the difference (x - y) / d
module _ (a b c : Beat) (x y : ℤ) (d : ℕ) (p : 0 < a.den) (q : 0 < b.den) (v : Worth a x d) (w : Worth b y d) where
  pub sum_value : add_beats a b ≡ accepted c → Worth c (x +ℤ y) d
  sum_value e = worked_value ◌+ℤ◌ sum_times a b x y d v w c p q e

  pub difference_value : sub_beats a b ≡ accepted c → Worth c (x -ℤ y) d
  difference_value e = worked_value ◌-ℤ◌ gap_times a b x y d v w c p q e

-- ---- multiples

-- x / d times n / k is x * n / (d * k)
pub multiple_value : (a c : Beat) (x n : ℤ) (d k : ℕ) → 0 < a.den → 0 < k → Worth a x d → mul_beat a n k ≡ accepted c → Worth c (x *ℤ n) (d * k)
multiple_value a c x n d k p h v e =
    value_same c (a.num *ℤ n) (x *ℤ n) (a.den * k) (d * k) (mul-pos p h) both (accepted_value (a.num *ℤ n) (a.den * k) c (mul-pos p h) e)
  where
    -- a n (d k) = (a d) n k = (x b) n k = x n (b k)
    both : a.num *ℤ n *ℤ pos (d * k) ≡ x *ℤ n *ℤ pos (a.den * k)
    both =
        sym (times_times (a.num *ℤ n) d k)
        ∙ ap (λ (z : ℤ). z *ℤ pos k) (swapped_signed a.num n d ∙ ap (λ (z : ℤ). z *ℤ n) v ∙ sym (swapped_signed x n a.den))
        ∙ times_times (x *ℤ n) a.den k

-- x / d times n is x * n / d
pub scaled_value : (a c : Beat) (x n : ℤ) (d : ℕ) → 0 < a.den → Worth a x d → mul_beat a n 1 ≡ accepted c → Worth c (x *ℤ n) d
scaled_value a c x n d p v e =
    subst (λ (k : ℕ). Worth c (x *ℤ n) k) (mul-one d) (multiple_value a c x n d 1 p (omega arith) v e)
