-- The walk in the words of the code, a step at a time: the points that are left lead to the same start of bar 2^31.
use mathlib.Core.Path.{◌≡◌, sym, ap, ◌∙◌}
use mathlib.Core.Bool.{Bool, true, false, cond}
use mathlib.Core.List.{List, [], ◌∷◌}
use Prim.Native.Nat.{ℕ, min, max, ◌-◌, ◌<◌, ◌≤◌}
use lib.IntN.{pos}
use borrow.Author.Tests.{lt-ltb, le-ltb}
use Rattle.numbers.specs.Answers.{Answer, accepted, refused, is_accepted, then}
use Rattle.beats.specs.declared.Beat.{Beat}
use Rattle.std.proofs.Common.{ℤ, refl}
use Rattle.numbers.proofs.Laws.{never}
use Rattle.beats.specs.Beats.{new_beat}
use Rattle.beats.specs.Sums.{storable, fitted, add_beats, mul_beat}
use Rattle.meter.specs.declared.MeterPoint.{MeterPoint}
use Rattle.meter.specs.Meters.{len_of}
use Rattle.meter.specs.Starts.{checked_bars}
use Rattle.meter.specs.Fits.{last_bar}
use Rattle.fits.specs.Decision.{segment, reach, walked}

-- ---- bars of one length

fitted_two : (z : ℤ) (d : ℕ) → is_accepted (fitted z d) ≡ false → fitted z d ≡ refused 2 []
unfolding fitted
fitted_two z d =
    elim (storable z d) as (λ t. is_accepted (cond t (accepted (new_beat z d)) (refused 2 [])) ≡ false → cond t (accepted (new_beat z d)) (refused 2 []) ≡ refused 2 []) [
      | true ↦ λ e. never (sym e)
      | false ↦ λ e. refl
    ]

refused_two : (at len : Beat) (n : ℕ) → is_accepted (checked_bars at len n) ≡ false → checked_bars at len n ≡ refused 2 []
unfolding checked_bars
refused_two at len n = by (mul_beat len (pos n) 1) (fitted_two _ _)
  where
    by : (x : Answer Beat) → (is_accepted x ≡ false → x ≡ refused 2 []) → is_accepted (then x (λ s. add_beats at s)) ≡ false → then x (λ s. add_beats at s) ≡ refused 2 []
    by (accepted span) h e = fitted_two _ _ e
    by (refused code facts) h e = h refl

module _ (at len : Beat) (n : ℕ) where
  pub bars_done : (span : Beat) (answer : Answer Beat) → mul_beat len (pos n) 1 ≡ accepted span → answer ≡ add_beats at span → answer ≡ checked_bars at len n
  unfolding checked_bars
  bars_done span answer e q = q ∙ sym (ap (λ (x : Answer Beat). then x (λ s. add_beats at s)) e)

  pub bars_refused : (code : ℕ) (facts : List ℕ) → mul_beat len (pos n) 1 ≡ refused code facts → refused code facts ≡ checked_bars at len n
  unfolding checked_bars
  bars_refused code facts e = sym (ap (λ (x : Answer Beat). then x (λ s. add_beats at s)) e)

  pub segment_on : is_accepted (checked_bars at len (n - 1)) ≡ true → checked_bars at len n ≡ segment at len n
  unfolding segment
  segment_on e = sym (ap (λ (t : Bool). cond t (checked_bars at len n) (refused 2 [])) e)

  -- a refusal is 2
  pub segment_off : (code : ℕ) (facts : List ℕ) → refused code facts ≡ checked_bars at len (n - 1) → refused code facts ≡ segment at len n
  unfolding segment
  segment_off code facts e =
      e ∙ refused_two at len (n - 1) (ap is_accepted (sym e))
      ∙ sym (ap (λ (t : Bool). cond t (checked_bars at len n) (refused 2 [])) (ap is_accepted (sym e)))

-- ---- bars of one meter

module _ (bar end : ℕ) (meter : MeterPoint) (at : Beat) where
  pub reach_bars : bar < end → reach bar end meter at ≡ segment at (len_of meter) (end - bar)
  unfolding reach
  reach_bars h = ap (λ (t : Bool). cond t (segment at (len_of meter) (end - bar)) (accepted at)) (lt-ltb bar end h)

  pub reach_none : end ≤ bar → reach bar end meter at ≡ accepted at
  unfolding reach
  reach_none h = ap (λ (t : Bool). cond t (segment at (len_of meter) (end - bar)) (accepted at)) (le-ltb bar end h)

-- ---- the scan

pub walked_end : (map : List MeterPoint) (bar : ℕ) (meter : MeterPoint) (start : Answer Beat) → map ≡ [] → walked map bar meter start ≡ then start (λ at. reach bar last_bar meter at)
unfolding walked
walked_end map bar meter start e = ap (λ (map : List MeterPoint). walked map bar meter start) e

-- what is refused stays refused
pub walked_refused : (map : List MeterPoint) (bar : ℕ) (meter : MeterPoint) (code : ℕ) (facts : List ℕ) → walked map bar meter (refused code facts) ≡ refused code facts
unfolding walked
walked_refused [] bar meter code facts = refl
walked_refused (point ∷ rest) bar meter code facts = walked_refused rest (max bar (min point.bar last_bar)) point code facts

module _ (map : List MeterPoint) (bar : ℕ) (meter : MeterPoint) (start : Answer Beat) (point : MeterPoint) (rest : List MeterPoint) (step : map ≡ point ∷ rest) where
  pub walked_again : (end next : ℕ) (after there : Answer Beat) → end ≡ min point.bar last_bar → after ≡ then start (λ at. reach bar end meter at) → next ≡ max bar end
      → walked map bar meter start ≡ there → walked rest next point after ≡ there
  unfolding walked
  walked_again end next after there ee ea en q =
      (λ t. walked rest (en t) point (ea t))
      ∙ ap (λ (e : ℕ). walked rest (max bar e) point (then start (λ at. reach bar e meter at))) ee
      ∙ sym (ap (λ (map : List MeterPoint). walked map bar meter start) step)
      ∙ q

  pub walked_stops : (end code : ℕ) (facts : List ℕ) (there : Answer Beat) → end ≡ min point.bar last_bar → refused code facts ≡ then start (λ at. reach bar end meter at)
      → walked map bar meter start ≡ there → refused code facts ≡ there
  walked_stops end code facts there ee ea q =
      sym (walked_refused rest (max bar end) point code facts) ∙ walked_again end (max bar end) (refused code facts) there ee ea refl q
