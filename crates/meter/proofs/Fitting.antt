-- For a score that fits, the count is the first bar that starts at or after the beat: its starts are the exact sums, which never fall.
use Rattle.std.proofs.Common.{None, Option, Some, Ok}
use mathlib.Core.Path.{◌≡◌, refl, sym, ap, ◌∙◌}
use mathlib.Core.Bool.{true, false, not, ◌&&◌}
use mathlib.Core.List.{List}
use Prim.Native.Nat.{ℕ, ◌*◌, ◌%◌, ◌≤◌}
use native.Mathlib.Omega.{arith}
use lib.Dec.{leb}
use lib.IntN.{pos}
use lib.Signed.{le_z}
use lib.ListN.{length}
use borrow.Author.Tests.{leb-true, eq-eqb, le-leb}
use Rattle.numbers.specs.Answers.{Answer, accepted}
use Rattle.numbers.proofs.Laws.{by_order, and_left, not_both}
use Rattle.beats.specs.declared.Beat.{Beat}
use Rattle.beats.specs.Beats.{is_beat}
use Rattle.beats.specs.Sums.{storable, below_beat}
use Rattle.beats.proofs.Laws.{is_fine}
use Rattle.meter.specs.declared.MeterPoint.{MeterPoint}
use Rattle.meter.specs.Meters.{points_of, sound_pickup}
use Rattle.meter.specs.Starts.{start_of, exact_start}
use Rattle.meter.specs.Counts.{Least, reaches, count_at}
use Rattle.meter.specs.Fits.{first_zero, sound_from, sound_map, forward_pickup, Fits, last_bar}
use Rattle.meter.specs.Answers.{if_map, if_pickup, count_answer}
use Rattle.meter.specs.Promise.{arrives, FirstBar, CountPromise}
use Rattle.meter.proofs.Scanning.{points_length}
use Rattle.meter.proofs.Counting.{Rising, count_least, count_past}
use Rattle.meter.proofs.Exactness.{exact_beat, start_exact, start_stored, starts_rise}
use Rattle.numbers.proofs.Laws.{results_apart}

module _ (map : List MeterPoint) (default : ℕ) (pickup : Option Beat) (fits : Fits map default pickup) where
  -- each start is the sum of the lengths before it
  pub fit_exact : (bar : ℕ) → bar ≤ last_bar → start_of map default pickup bar ≡ exact_start map default pickup bar
  fit_exact bar h = start_exact map default pickup bar (fits.walks bar h)

  -- and within the limits of a beat
  pub fit_stored : (bar : ℕ) → bar ≤ last_bar → storable (start_of map default pickup bar).num (start_of map default pickup bar).den ≡ true
  fit_stored bar h = start_stored map default pickup bar (fits.walks bar h)

  pub fit_rising : Rising (start_of map default pickup)
  fit_rising =
      record {
        beats = λ bar h. ap is_beat (fit_exact bar h) ∙ exact_beat map default pickup bar;
        rises = λ i j h l. starts_rise map default pickup fits.forward i j h (fits.walks i (omega arith)) (fits.walks j l);
      }

  module _ (beat : Beat) (fine : is_beat beat ≡ true) where
    -- the count is the first bar that reaches the beat, or 2^32 - 1 where bar 2^31 does not
    pub fit_least : reaches map default pickup beat last_bar ≡ true → Least (reaches map default pickup beat) (count_at map default pickup beat)
    fit_least e = count_least map default pickup fit_rising beat fine e

    pub fit_past : reaches map default pickup beat last_bar ≡ false → count_at map default pickup beat ≡ 4294967295
    fit_past e = count_past map default pickup fit_rising beat fine e

    -- the same of the exact sums
    same_test : (bar : ℕ) → bar ≤ last_bar → arrives map default pickup beat bar ≡ reaches map default pickup beat bar
    unfolding reaches
    same_test bar h = ap (λ (b : Beat). not (below_beat b beat)) (sym (fit_exact bar h))

    pub fit_first : FirstBar map default pickup beat (count_at map default pickup beat)
    fit_first =
        record {
          first = λ e. exactly (count_at map default pickup beat) (sym (same_test last_bar (omega arith)) ∙ e) (fit_least (sym (same_test last_bar (omega arith)) ∙ e));
          past = λ e. fit_past (sym (same_test last_bar (omega arith)) ∙ e);
        }
      where
        exactly : (bars : ℕ) → reaches map default pickup beat last_bar ≡ true → Least (reaches map default pickup beat) bars → Least (arrives map default pickup beat) bars
        exactly bars e least =
            let h : bars ≤ last_bar = by_order last_bar bars (λ l. not_both (reaches map default pickup beat last_bar) e (least.fails last_bar l)) (λ l. l) in
            record { passes = same_test bars h ∙ least.passes; fails = λ bar l. same_test bar (omega arith) ∙ least.fails bar l }

-- ---- the call

pub points_few : (map : List MeterPoint) → sound_map map ≡ true → length map ≤ 256
unfolding sound_map
points_few map s = leb-true (length map) 256 (and_left (leb (length map) 256) (first_zero map && sound_from 0 map) s)

pub forward_sound : (pickup : Option Beat) → forward_pickup pickup ≡ true → sound_pickup pickup ≡ true
forward_sound None e = refl
forward_sound (Some beat) e = and_left (is_beat beat) (le_z (pos 0) beat.num) e

-- past the tests for 3, 4 and 1 stands the answer
pub passed : {A : Type 0} (words : List ℕ) (pickup : Option Beat) (answer : Answer A) → length words % 3 ≡ 0 → length words ≤ 65536 * 3 → sound_pickup pickup ≡ true
    → answer ≡ if_map words (if_pickup pickup answer)
passed words pickup answer even few sound = rw (eq-eqb _ _ even, le-leb _ _ few, sound)

module _ (words : List ℕ) (default : ℕ) (pickup : Option Beat) (beat : Beat) (even : length words % 3 ≡ 0) (fits : Fits (points_of words) default pickup) (fine : is_beat beat ≡ true) where
  answered : accepted (count_at (points_of words) default pickup beat) ≡ count_answer words default pickup beat
  answered =
      is_fine (is_beat beat) _ fine
      ∙ passed words pickup _ even (omega (arith, points_length words, points_few (points_of words) fits.sound)) (forward_sound pickup fits.forward)

pub count_keeps : CountPromise
count_keeps words default pickup beat even fits fine answer e =
    let bars = count_at (points_of words) default pickup beat in
    (bars, (results_apart answer (Ok bars) (e ∙ sym (answered words default pickup beat even fits fine)), fit_first (points_of words) default pickup fits beat fine))
