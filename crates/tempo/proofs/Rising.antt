-- The seconds at a beat never fall as the beat rises. Inside a stretch of one tempo each rounded operation keeps the order; at a point the walk goes on
-- from the seconds there, and never falls below the seconds that it stands at.
use mathlib.Core.Path.{◌≡◌, refl, sym, ap, ◌∙◌, subst}
use mathlib.Core.Bool.{Bool, true, false, cond}
use mathlib.Core.List.{List, [], ◌∷◌}
use Prim.Native.Nat.{ℕ, ◌*◌}
use native.Mathlib.Nat.{le_refl}
use lib.Dec.{T}
use lib.Ieee.{Float, nan, inf, fin, binary32, binary64, up, down, of_bits, fits, le, neg, add, sub, mul}
use lib.Ieee.Fits.{add-fits}
use lib.Ieee.Positive.{positive}
use lib.Ieee.Scale.{finite}
use Rattle.numbers.proofs.Laws.{holds}
use Rattle.rounding.specs.Floats.{float0, float1, without_sign}
use Rattle.rounding.proofs.Laws.{max_positive, le_trans_float}
use Rattle.beats.specs.Frames.{float60, seconds_at}
use Rattle.tempo.specs.Tempos.{TempoPoint, tempo_of, elapsed, walk, whole_walk, reaches, seconds_to, seconds_at_beat}
use Rattle.tempo.specs.Rising.{Follows, RisingFrom, RisingMap}
use Rattle.rounding.proofs.Laws.{Up, up_right, up_trans, le→up, nle→up, up→le, mul_up, div_up, add_up, add_more, sub_up}
use Rattle.tempo.proofs.Zeros.{Zero, FromZero, sub_zero, mul_zero, div_zero, add_zero, signed_zero, zero_below, le_plain, from_zero_on}

-- the tempo of given bits is finite and above 0, unless they are infinity's
pub finite_tempo : (bits : ℕ) → (of_bits binary32 bits ≡ inf false → ⊥) → T (positive (tempo_of bits))
finite_tempo bits h = max_positive (of_bits binary32 bits) float1 tt h

-- ---- beats from 0 on, without a zero's sign

plain_own : (x : Float) → FromZero x → Up (without_sign x) (without_sign x)
unfolding without_sign
plain_own nan p = absurd p.number
plain_own (inf s) p = absurd p.number
plain_own (fin s m e) p = le_refl (m * up e * down e)

module _ (x y : Float) (p : FromZero x) (q : FromZero y) where
  le→plain : T (le x y) → Up (without_sign x) (without_sign y)
  le→plain h = le→up (without_sign x) (without_sign y) (plain_own x p) (plain_own y q) (subst T (sym (le_plain x y p q)) h)

  turned : le x y ≡ false → T (le y x)
  turned h = subst T (le_plain y x q p) (up→le (without_sign y) (without_sign x) (nle→up (without_sign x) (without_sign y) (plain_own x p) (plain_own y q) (le_plain x y p q ∙ h)))

-- ---- one stretch

positive60 : T (positive float60)
unfolding of_bits
positive60 = tt

-- at one tempo
pub seconds_up : (x y tempo : Float) → T (positive tempo) → Up x y → Up (seconds_at x tempo) (seconds_at y tempo)
seconds_up x y tempo p h = div_up binary64 (mul binary64 x float60) (mul binary64 y float60) tempo p (mul_up binary64 x y float60 positive60 h)

seconds_zero : (x tempo : Float) → T (positive tempo) → Zero x → Zero (seconds_at x tempo)
seconds_zero x tempo p h = div_zero binary64 (mul binary64 x float60) tempo (mul_zero binary64 x float60 h positive60) p

-- a difference from a zero, whatever its sign
sub_plain : (to from : Float) → Up to to → Zero from → sub binary64 to from ≡ sub binary64 to (without_sign from)
unfolding sub neg without_sign
sub_plain to nan u h = absurd h
sub_plain to (inf s) u h = absurd h
sub_plain to (fin s m e) u h = add_zero binary64 to (neg (fin s m e)) (neg (fin false m e)) u h h

-- where the walk stands: the seconds are a value of the format and not negative, the beat is from 0 on, and the tempo is finite and above 0
record Stands (secs from tempo : Float) : Type 0 where
  held : T (fits binary64 secs)
  sign : Up secs secs
  beat : FromZero from
  speed : T (positive tempo)

elapsed_plain : (secs from to tempo : Float) → Stands secs from tempo → FromZero to → T (le from to)
    → elapsed secs from to tempo ≡ elapsed secs (without_sign from) (without_sign to) tempo
unfolding without_sign
elapsed_plain secs nan to tempo s q h = absurd s.beat.number
elapsed_plain secs (inf r) to tempo s q h = absurd s.beat.number
elapsed_plain secs (fin r m e) nan tempo s q h = absurd q.number
elapsed_plain secs (fin r m e) (inf t) tempo s q h = absurd q.number
elapsed_plain secs (fin false m e) (fin false n d) tempo s q h = refl
elapsed_plain secs (fin true m e) (fin false n d) tempo s q h =
    ap (λ (x : Float). add binary64 secs (seconds_at x tempo)) (sub_plain (fin false n d) (fin true m e) (le_refl (n * up d * down d)) (signed_zero m e s.beat.reached))
elapsed_plain secs (fin r m e) (fin true n d) tempo s q h =
    let N : n ≡ 0 = signed_zero n d q.reached in
    let M : m ≡ 0 = zero_below m e n d (le→plain (fin r m e) (fin true n d) s.beat q h) N in
    add_zero binary64 secs (seconds_at (sub binary64 (fin true n d) (fin r m e)) tempo) (seconds_at (sub binary64 (fin false n d) (fin false m e)) tempo) s.sign
    (seconds_zero (sub binary64 (fin true n d) (fin r m e)) tempo s.speed (sub_zero binary64 (fin true n d) (fin r m e) N M))
    (seconds_zero (sub binary64 (fin false n d) (fin false m e)) tempo s.speed (sub_zero binary64 (fin false n d) (fin false m e) N M))

plain_finite : (x : Float) → FromZero x → T (finite (without_sign x))
unfolding without_sign
plain_finite nan p = absurd p.number
plain_finite (inf s) p = absurd p.number
plain_finite (fin s m e) p = tt

module _ (secs from tempo : Float) (s : Stands secs from tempo) where
  -- the seconds at a later beat are not below those at an earlier one
  elapsed_up : (to further : Float) → FromZero to → FromZero further → T (le from to) → T (le to further) → Up (elapsed secs from to tempo) (elapsed secs from further tempo)
  elapsed_up to further p q h k =
      let a = without_sign from in
      let b = without_sign to in
      let c = without_sign further in
      rw (elapsed_plain secs from to tempo s p h, elapsed_plain secs from further tempo s q (le_trans_float from to further h k))
      (add_up binary64 secs secs (seconds_at (sub binary64 b a) tempo) (seconds_at (sub binary64 c a) tempo) s.sign
      (seconds_up (sub binary64 b a) (sub binary64 c a) tempo s.speed (sub_up binary64 b a c (plain_finite further q) (le→plain from to s.beat p h) (le→plain to further p q k))))

  -- nor below those at the stretch's beginning
  elapsed_more : (to : Float) → FromZero to → T (le from to) → Up secs (elapsed secs from to tempo)
  elapsed_more to p h =
      let a = without_sign from in
      let b = without_sign to in
      let gap = sub binary64 b a in
      rw (elapsed_plain secs from to tempo s p h)
      (add_more binary64 secs (seconds_at gap tempo) s.held s.sign
      (seconds_up gap gap tempo s.speed (sub_up binary64 b a b (plain_finite to p) (le→plain from to s.beat p h) (plain_own to p))))

  -- the walk stands at a point that it passes
  passed : (point : TempoPoint) → Follows from point → Stands (elapsed secs from point.at tempo) point.at point.tempo
  passed point f =
      let at = from_zero_on from point.at s.beat f.number f.later in
      record {
        held = add-fits binary64 secs (seconds_at (sub binary64 point.at from) tempo);
        sign = up_right secs (elapsed secs from point.at tempo) (elapsed_more point.at at f.later);
        beat = at;
        speed = f.tempo;
      }

-- ---- the walk

abbrev walk_to : Float → List TempoPoint → Float → Float → Float → Float
walk_to beat = walk (reaches beat) (seconds_to beat)

-- what the walk answers is not below the seconds that it stands at
walk_more : (points : List TempoPoint) (secs from tempo beat : Float) → Stands secs from tempo → RisingFrom from points → FromZero beat → T (le from beat)
    → Up secs (walk_to beat points secs from tempo)
unfolding walk
walk_more [] secs from tempo beat s r p h = elapsed_more secs from tempo s beat p h
walk_more (point ∷ rest) secs from tempo beat s r p h =
    let there = elapsed secs from point.at tempo in
    go (le beat point.at) (λ k. walk_more rest there point.at point.tempo beat (passed secs from tempo s point r.0) r.1 p k) refl
  where
    there : Float
    there = elapsed secs from point.at tempo

    at : FromZero point.at
    at = (passed secs from tempo s point r.0).beat

    go : (b : Bool) → (T (le point.at beat) → Up there (walk_to beat rest there point.at point.tempo)) → le beat point.at ≡ b
        → Up secs (cond b (elapsed secs from beat tempo) (walk_to beat rest there point.at point.tempo))
    go true next e = elapsed_more secs from tempo s beat p h
    go false next e = up_trans secs there (walk_to beat rest there point.at point.tempo) (elapsed_more secs from tempo s point.at at r.0.later) (next (turned beat point.at p at e))

-- of two beats the later has no fewer seconds: both stop before the point, or the first does and the second goes on from the seconds there, or both go on
walk_up : (points : List TempoPoint) (secs from tempo beat further : Float) → Stands secs from tempo → RisingFrom from points → FromZero beat → FromZero further
    → T (le from beat) → T (le beat further) → Up (walk_to beat points secs from tempo) (walk_to further points secs from tempo)
unfolding walk
walk_up [] secs from tempo beat further s r p q h k = elapsed_up secs from tempo s beat further p q h k
walk_up (point ∷ rest) secs from tempo beat further s r p q h k =
    let there = elapsed secs from point.at tempo in
    go (le beat point.at) (le further point.at) (λ l. walk_up rest there point.at point.tempo beat further (passed secs from tempo s point r.0) r.1 p q l k) refl refl
  where
    there : Float
    there = elapsed secs from point.at tempo

    at : FromZero point.at
    at = (passed secs from tempo s point r.0).beat

    go : (b c : Bool) → (T (le point.at beat) → Up (walk_to beat rest there point.at point.tempo) (walk_to further rest there point.at point.tempo))
        → le beat point.at ≡ b → le further point.at ≡ c
        → Up (cond b (elapsed secs from beat tempo) (walk_to beat rest there point.at point.tempo)) (cond c (elapsed secs from further tempo) (walk_to further rest there point.at point.tempo))
    go true true next e f = elapsed_up secs from tempo s beat further p q h k
    go true false next e f =
        up_trans (elapsed secs from beat tempo) there (walk_to further rest there point.at point.tempo)
        (elapsed_up secs from tempo s beat point.at p at h (holds (le beat point.at) e))
        (walk_more rest there point.at point.tempo further (passed secs from tempo s point r.0) r.1 q (turned further point.at q at f))
    go false true next e f = absurd (subst T e (le_trans_float beat further point.at k (holds (le further point.at) f)))
    go false false next e f = next (turned beat point.at p at e)

-- ---- the law

-- the points after the first may follow beat 0 too, where the walk begins
from_start : (from : Float) (points : List TempoPoint) → FromZero from → RisingFrom from points → RisingFrom float0 points
from_start from [] p r = tt
from_start from (point ∷ rest) p r =
    let f = r.0 in
    (record { number = f.number; later = (from_zero_on from point.at p f.number f.later).reached; tempo = f.tempo }, r.1)

zero_reached : FromZero float0
zero_reached = record { number = tt; reached = up→le float0 float0 (le_refl 0) }

at_start : (tempo : Float) → T (positive tempo) → Stands float0 float0 tempo
unfolding fits
at_start tempo p = record { held = tt; sign = le_refl 0; beat = zero_reached; speed = p }

-- seconds never fall as the beat rises, and are never below 0
pub seconds_at_up : (points : List TempoPoint) → RisingMap points → (a b : Float) → T (finite a) → T (finite b) → T (le float0 a) → T (le a b)
    → Up (seconds_at_beat points a) (seconds_at_beat points b)
unfolding whole_walk
seconds_at_up [] r a b A B h k = le_refl 0
seconds_at_up (first ∷ rest) r a b A B h k =
    let p : FromZero a = record { number = A; reached = h } in
    let start = from_zero_on float0 first.at zero_reached r.0.number r.0.later in
    walk_up rest float0 float0 first.tempo a b (at_start first.tempo r.0.tempo) (from_start first.at rest start r.1) p (from_zero_on a b p B k) h k

pub seconds_rise : (points : List TempoPoint) → RisingMap points → (a b : Float) → T (finite a) → T (finite b) → T (le float0 a) → T (le a b)
    → T (le (seconds_at_beat points a) (seconds_at_beat points b))
seconds_rise points r a b A B h k = up→le (seconds_at_beat points a) (seconds_at_beat points b) (seconds_at_up points r a b A B h k)
