-- What the call answers by its test, and what is known of lists that passed.
use Rattle.std.proofs.Common.{◌≡◌, sym, refl, ap, ◌∙◌, Bool, true, false, cond, List, ℕ, ◌≤◌, ℤ, length, leb, leb-true, Result, Ok, Err}
use Rattle.numbers.specs.Answers.{Answer, accepted, given}
use Rattle.numbers.specs.declared.refusal.Refusal.{Refusal}
use Rattle.numbers.specs.declared.refusal.Refusal.TheVariants.{TooLong}
use Rattle.meter.specs.Meters.{points_of}
use Rattle.tempo.specs.Answers.{map_test, if_walkable}
use Rattle.tempo.specs.Tempos.{Parallel, tempo_points}
use Rattle.transport.specs.declared.Transport.{Transport}
use Rattle.timeline.specs.Tests.{words_test, worse, maps_test, test_of}
use Rattle.timeline.proofs.Laws.{by_test, passes, both_sound, parallel}
use Rattle.filler.specs.Fills.{bar_lines, lines_test, fill_answer, fill_after}

abbrev fine : Result Unit Refusal
fine = Ok tt

short : (n : ℕ) → lines_test n ≡ fine → n ≤ 65536
short n e = go (leb n 65536) refl e
  where
    go : (b : Bool) → leb n 65536 ≡ b → cond b fine (Err TooLong) ≡ fine → n ≤ 65536
    go true p q = leb-true n 65536 p
    go false p q = absurd cc

abbrev done : Answer Unit
done = accepted tt

only_passed : (test : Result Unit Refusal) → if_walkable test done ≡ done → fine ≡ test
only_passed (Ok u) h = refl
only_passed (Err why) h = absurd cc

module _ (t : Transport) (words : List ℕ) (nums : List ℤ) (dens tempos : List ℕ) (n : ℕ) where
  abbrev finding : Result Unit Refusal
  finding = worse (lines_test n) (maps_test words nums dens tempos)

  -- the tempo map is sound, and there are not too many lines
  pub known : fine ≡ test_of t finding → (map_test nums dens tempos ≡ fine) × (n ≤ 65536)
  unfolding maps_test
  known e =
      let both = both_sound (lines_test n) (maps_test words nums dens tempos) (passes t finding e).lists in
      ((both_sound (words_test words) (map_test nums dens tempos) both.1).1, short n both.0)

  -- so its lists are parallel
  pub test_parallel : {test : Result Unit Refusal} → test ≡ test_of t finding → test ≡ fine → Parallel nums dens tempos
  test_parallel e p = parallel nums dens tempos (known (sym p ∙ e)).0

module _ (t : Transport) (words : List ℕ) (nums : List ℤ) (dens tempos out : List ℕ) where
  abbrev lines : Answer Unit → List ℕ
  lines a = given (λ u. bar_lines t (points_of words) (tempo_points nums dens tempos) (length out)) a out

  module _ {test : Result Unit Refusal} (e : test ≡ test_of t (finding t words nums dens tempos (length out))) where
    pub answered : if_walkable test done ≡ fill_answer t words nums dens tempos out
    answered = by_test t (finding t words nums dens tempos (length out)) done e

    pub after : lines (if_walkable test done) ≡ fill_after t words nums dens tempos out
    after = ap lines answered

  -- the same of a call that is accepted
  pub accepted_known : fill_answer t words nums dens tempos out ≡ done → (map_test nums dens tempos ≡ fine) × (length out ≤ 65536)
  accepted_known a = known t words nums dens tempos (length out) (only_passed _ (answered refl ∙ a))
