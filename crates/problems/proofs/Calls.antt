-- From what the passes say to the answer of a call.
use Rattle.std.proofs.Common.{◌≡◌, sym, ap, ◌∙◌, Bool, true, false, List, [], ℕ, ◌/◌, ◌≤◌, ◌<◌, ℤ, length, zero-add, arith}
use borrow.Author.Tests.{le-leb, lt-leb}
use Rattle.numbers.specs.Answers.{Answer, accepted, refused}
use Rattle.meter.specs.declared.MeterPoint.{MeterPoint}
use Rattle.tempo.specs.Answers.{Walkable}
use Rattle.problems.specs.Problems.{Problem, meter_problems, listed, tempo_problems}
use Rattle.problems.specs.Answers.{counted, after, meter_problems_answer, meter_after}
use Rattle.problems.specs.Passes.{Ready, Passed, put}
use Rattle.problems.proofs.Listing.{listed_length}
use Rattle.problems.proofs.Passing.{counts, unwritten, writes}
use Rattle.problems.proofs.Wholes.{tempo_few}

-- a pass that counts is ready, and one that writes where there is room
pub ready : (writing : Bool) (out : List ℕ) (problems : List Problem) → length problems ≤ 327680 → (writing ≡ true → length problems ≤ length out / 3) → Ready writing out 0 problems
ready writing out problems few room = record { fits = omega arith; room = λ w. omega (arith, room w) }

-- ---- there is no room, or there is

module _ (problems : List Problem) (out : List ℕ) where
  pub too_many : length out / 3 < length problems → (refused 8 [] ≡ counted problems out) × (out ≡ after problems (counted problems out) out)
  too_many over = let e = lt-leb (length problems) (length out / 3) over in (rw e, rw e)

  pub enough : length problems ≤ length out / 3 → (accepted (length problems) ≡ counted problems out) × (put true out 0 problems ≡ after problems (counted problems out) out)
  enough fits = let e = le-leb (length problems) (length out / 3) fits in (rw e, rw e (writes out problems fits))

-- ---- two passes: the first counts and leaves the words, which so have as many as before

module _ {problems : List Problem} {out first : List ℕ} {count : ℕ} (counted_all : Passed false out 0 problems first count) where
  said : (count ≡ length problems) × (first ≡ out)
  said = counts counted_all

  -- there is no room
  pub none_fit : length first / 3 < count → (refused 8 [] ≡ counted problems out) × (first ≡ after problems (counted problems out) out)
  none_fit over = let no = too_many problems out (omega (arith, over, said.0, ap length said.1)) in (no.0, said.1 ∙ no.1)

  -- there is nothing to write
  pub none_written : count ≡ 0 → (accepted 0 ≡ counted problems out) × (first ≡ after problems (counted problems out) out)
  none_written zero =
      let none : length problems ≡ 0 = omega (arith, zero, said.0) in
      let fit = enough problems out (omega (arith, none)) in
      (ap accepted (sym none) ∙ fit.0, said.1 ∙ sym (unwritten out problems none) ∙ fit.1)

  -- the second pass writes
  pub all_written : {second : List ℕ} {written : ℕ} → count ≤ length first / 3 → Passed true first 0 problems second written
      → (accepted written ≡ counted problems out) × (second ≡ after problems (counted problems out) out)
  all_written {second} {written} room wrote =
      let fit = enough problems out (omega (arith, room, said.0, ap length said.1)) in
      (ap accepted (wrote.counted ∙ zero-add (length problems)) ∙ fit.0, wrote.words ∙ ap (λ (l : List ℕ). put true l 0 problems) said.1 ∙ fit.1)

-- ---- a meter map

module _ (points : List MeterPoint) (out : List ℕ) where
  pub meter_too_long : 65536 < length points → (refused 4 [] ≡ meter_problems_answer points out) × (out ≡ meter_after points out)
  meter_too_long over = let e = lt-leb (length points) 65536 over in (rw e, rw e)

  pub meter_told : {answer : Answer ℕ} {words : List ℕ} → length points ≤ 65536
      → (answer ≡ counted (meter_problems points) out) × (words ≡ after (meter_problems points) (counted (meter_problems points) out) out)
      → (answer ≡ meter_problems_answer points out) × (words ≡ meter_after points out)
  meter_told short told = let e = le-leb (length points) 65536 short in (rw e told.0, rw e told.1)

-- ---- a tempo map

pub few : (nums : List ℤ) (dens tempos : List ℕ) → Walkable nums dens tempos → length (tempo_problems (listed nums dens tempos)) ≤ 327680
few nums dens tempos map = omega (arith, tempo_few (listed nums dens tempos), listed_length nums dens tempos map.even.even_dens map.even.even_tempos, map.short)
