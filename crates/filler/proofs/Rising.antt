-- A tempo map without problems whose numerators are small has points whose floats go up from 0.
use Rattle.std.proofs.Common.{◌≡◌, refl, sym, ap, ◌∙◌, subst, Bool, true, false, not, true≢false, List, [], ◌∷◌, ◌++◌, ℕ, suc, ◌*◌, suc-ne-zero, arith, T, ℤ, pos, negsuc, Float, le-ltb, eqb-true, length}
use Rattle.std.proofs.lemmas.Bool.{not-false}
use mathlib.Core.List.{append-eq-nil_iff}
use lib.Ieee.{inf, lt, le, binary32, of_bits}
use Rattle.numbers.proofs.Laws.{and_left, and_right}
use Rattle.rounding.specs.Floats.{float0}
use Rattle.rounding.proofs.Laws.{up→le}
use Rattle.beats.specs.declared.Beat.{Beat}
use Rattle.beats.specs.Beats.{is_beat, zero_beat}
use Rattle.beats.specs.Sums.{below_beat}
use Rattle.beats.specs.Frames.{beat_float}
use Rattle.beats.proofs.Laws.{beat_above}
use Rattle.tempo.specs.Answers.{all_beats}
use Rattle.tempo.specs.Tempos.{tempo_of, tempo_points}
use Rattle.tempo.specs.Rising.{Follows, RisingFrom, RisingMap}
use Rattle.tempo.proofs.Laws.{finite_tempo}
use Rattle.problems.specs.Problems.{problem_if, Listed, listed, sound_tempo, tempo_bits, tempo_points_after, is_zero, tempo_problems, not_above, many_tempos, later_beat}
use Rattle.filler.specs.Promise.{all_small}
use Rattle.filler.proofs.Ordering.{Placed, exactly, zero_placed, placed_finite, placed_up, placed_below, small_beat, placed_zero, placed_after, beat_zero}

-- ---- a list of problems that is empty

none_when : (found : Bool) (code index value : ℕ) → problem_if found code index value ≡ [] → found ≡ false
none_when true code index value e = cc
none_when false code index value e = refl

-- ---- a point

-- a tempo without a problem is not an infinity
tempo_finite : (index : ℕ) (point : Listed) → tempo_bits index point ≡ [] → of_bits binary32 point.bits ≡ inf false → ⊥
unfolding tempo_bits lt
tempo_finite index point e i =
    true≢false
    (sym (ap (λ (x : Float). not (sound_tempo x)) i) ∙ none_when (not (sound_tempo (of_bits binary32 point.bits))) 8 index point.bits e)

-- a point that may follow
follows : (from : Float) (index : ℕ) (num : ℤ) (den bits : ℕ) → Placed exactly (record { num = num; den = den }) → T (le from (beat_float num den))
    → tempo_bits index (record { at = record { num = num; den = den }; bits = bits }) ≡ [] → Follows from (record { at = beat_float num den; tempo = tempo_of bits })
follows from index num den bits p l e =
    record {
      number = placed_finite (record { num = num; den = den }) p;
      later = l;
      tempo = finite_tempo bits (tempo_finite index (record { at = record { num = num; den = den }; bits = bits }) e);
    }

-- ---- the points

rises : (index : ℕ) (before : Beat) (nums : List ℤ) (dens tempos : List ℕ) → Placed exactly before → all_beats nums dens ≡ true
    → tempo_points_after index before (listed nums dens tempos) ≡ [] → all_small (listed nums dens tempos) ≡ true → RisingFrom (beat_float before.num before.den) (tempo_points nums dens tempos)
unfolding tempo_points_after listed all_small all_beats tempo_points
rises index before [] dens tempos p b e s = tt
rises index before (num ∷ nums) [] tempos p b e s = tt
rises index before (num ∷ nums) (den ∷ dens) [] p b e s = tt
rises index before (num ∷ nums) (den ∷ dens) (bits ∷ tempos) p b e s =
    let at : Beat = record { num = num; den = den } in
    let point : Listed = record { at = at; bits = bits } in
    let after = not_above index before at in
    let rest = tempo_points_after (suc index) at (listed nums dens tempos) in
    let above = beat_above at (and_left (is_beat at) (all_beats nums dens) b) in
    let own = (append-eq-nil_iff {p = tempo_bits index point} {q = after ++ rest}).0 e in
    let others = (append-eq-nil_iff {p = after} {q = rest}).0 own.1 in
    let below = not-false (below_beat before at) (none_when (not (below_beat before at)) 9 index 0 others.0) in
    let q = placed_after exactly at above (and_left (small_beat exactly at) (all_small (listed nums dens tempos)) s) before p below in (
      follows (beat_float before.num before.den) index num den bits q
          (up→le (beat_float before.num before.den) (beat_float num den) (placed_below before at p q below)) own.0,
      rises (suc index) at nums dens tempos q (and_right (is_beat at) (all_beats nums dens) b) others.1 (and_right (small_beat exactly at) (all_small (listed nums dens tempos)) s),
    )

-- a beat that is 0 is not before 0
zero_at : (num : ℤ) (den : ℕ) → is_zero (record { num = num; den = den }) ≡ true → below_beat (record { num = num; den = den }) zero_beat ≡ false
zero_at (pos n) den e = le-ltb (n * 1) (0 * den) (omega arith)
zero_at (negsuc n) den e = absurd (suc-ne-zero n (eqb-true (suc n) 0 e))

-- the map
pub map_rises : (nums : List ℤ) (dens tempos : List ℕ) → all_beats nums dens ≡ true → tempo_problems (listed nums dens tempos) ≡ [] → all_small (listed nums dens tempos) ≡ true
    → RisingMap (tempo_points nums dens tempos)
unfolding tempo_problems listed all_small all_beats tempo_points
map_rises [] dens tempos b e s = tt
map_rises (num ∷ nums) [] tempos b e s = tt
map_rises (num ∷ nums) (den ∷ dens) [] b e s = tt
map_rises (num ∷ nums) (den ∷ dens) (bits ∷ tempos) b e s =
    let at : Beat = record { num = num; den = den } in
    let point : Listed = record { at = at; bits = bits } in
    let many = many_tempos (length (point ∷ listed nums dens tempos)) in
    let late = later_beat at in
    let rest = tempo_points_after 1 at (listed nums dens tempos) in
    let timed = (append-eq-nil_iff {p = late} {q = tempo_bits 0 point ++ rest}).0 ((append-eq-nil_iff {p = many} {q = late ++ (tempo_bits 0 point ++ rest)}).0 e).1 in
    let below = zero_at num den (not-false (is_zero at) (none_when (not (is_zero at)) 7 0 0 timed.0)) in
    let left = (append-eq-nil_iff {p = tempo_bits 0 point} {q = rest}).0 timed.1 in
    let q = placed_zero exactly at (beat_above at (and_left (is_beat at) (all_beats nums dens) b)) (and_left (small_beat exactly at) (all_small (listed nums dens tempos)) s) below in (
      follows float0 0 num den bits q
          (subst (λ (x : Float). T (le x (beat_float num den))) beat_zero
          (up→le (beat_float (pos 0) 1) (beat_float num den) (placed_up zero_beat at zero_placed q below))) left.0,
      rises 1 at nums dens tempos q (and_right (is_beat at) (all_beats nums dens) b) left.1 (and_right (small_beat exactly at) (all_small (listed nums dens tempos)) s),
    )
