-- How a call goes by what was tested before its walk, and what is known of a transport and of maps that passed.
use Rattle.std.proofs.Common.{◌≡◌, ℕ, ◌<◌, ◌≤◌, Bool, true, false, cond, List, [], ℤ, Result, Ok, Err, sym, refl, ap, ◌∙◌, arith, le-leb, MatchResult, IsOkAnd}
use borrow.Author.Tests.{lt-leb}
use Rattle.numbers.specs.Answers.{Answer, accepted, refused, then}
use Rattle.numbers.specs.declared.refusal.Refusal.{Refusal}
use Rattle.numbers.specs.declared.refusal.Refusal.TheVariants.{Unsound}
use Rattle.numbers.specs.Refusals.{number_of, facts_of, read}
use Rattle.tempo.specs.Answers.{map_test, if_walkable}
use Rattle.tempo.specs.Tempos.{Parallel}
use Rattle.tempo.proofs.Laws as tempo
use Rattle.transport.specs.declared.Transport.{Transport}
use Rattle.transport.specs.Transports.{sound, seek_to}
use Rattle.transport.specs.Changes.{handed}
use Rattle.transport.specs.Readings.{read_handed}
use Rattle.timeline.specs.Tests.{words_test, worse, maps_test, if_tested, test_of, handed_by}
use Rattle.timeline.specs.Answers.{within_reach}

-- ---- answers

-- what the code answers to its test is what the definitions answer
module _ {A : Type 0} (t : Transport) (finding : Result Unit Refusal) (answer : Answer A) where
  tested_lem : if_walkable (test_of t finding) answer ≡ if_tested t finding answer
  unfolding test_of if_tested
  tested_lem = go (sound t)
    where
      go : (q : Bool) → if_walkable (cond q finding (Err Unsound)) answer ≡ cond q (if_walkable finding answer) (refused 12 [])
      go true = refl
      go false = refl

  pub by_test : {found : Result Unit Refusal} → found ≡ test_of t finding → if_walkable found answer ≡ if_tested t finding answer
  by_test e = ap (λ (x : Result Unit Refusal). if_walkable x answer) e ∙ tested_lem

  pub refuses : {why : Refusal} → Err why ≡ test_of t finding → refused (number_of why) (facts_of why) ≡ if_tested t finding answer
  refuses e = by_test e

  pub accepts : Ok tt ≡ test_of t finding → answer ≡ if_tested t finding answer
  accepts e = by_test e

-- a change that is handed back is the change's answer
pub handed_lem : (t : Transport) (new : Result Transport Refusal) → read_handed (handed_by t new) ≡ handed t (read new)
handed_lem t (Ok new) = refl
handed_lem t (Err why) = refl

-- what is made of an accepted call's value, behind the tests
then_tested : {A B : Type 0} (t : Transport) (finding : Result Unit Refusal) (x : A) (g : A → B) → then (if_tested t finding (accepted x)) (λ y. accepted (g y)) ≡ if_tested t finding (accepted (g x))
unfolding if_tested
then_tested {A} {B} t finding x g = go (sound t) finding
  where
    go : (q : Bool) (f : Result Unit Refusal) → then (cond q (if_walkable f (accepted x)) (refused 12 [])) (λ y. accepted (g y)) ≡ cond q (if_walkable f (accepted (g x))) (refused 12 [])
    go true (Ok u) = refl
    go true (Err why) = refl
    go false f = refl

mapped : {A B : Type 0} (g : A → B) (r : Result A Refusal) (new : Result B Refusal) → MatchResult r (λ x. IsOkAnd new (λ y. y ≡ g x)) (λ why. new ≡ Err why) → read new ≡ then (read r) (λ x. accepted (g x))
mapped g (Ok x) (Ok y) h = ap accepted h
mapped g (Ok x) (Err why) h = absurd h
mapped g (Err why) new h = ap read h

-- a call's frame, sought
pub seeks : (t : Transport) (finding : Result Unit Refusal) (x : ℕ) (r : Result ℕ Refusal) (new : Result Transport Refusal) → read r ≡ if_tested t finding (accepted x)
    → MatchResult r (λ n. IsOkAnd new (λ s. s ≡ seek_to t n)) (λ why. new ≡ Err why) → read_handed (handed_by t new) ≡ handed t (if_tested t finding (accepted (seek_to t x)))
seeks t finding x r new e h =
    handed_lem t new ∙ ap (handed t) (mapped (seek_to t) r new h ∙ ap (λ (a : Answer ℕ). then a (λ n. accepted (seek_to t n))) e ∙ then_tested t finding x (seek_to t))

-- 10 where the bar is above 2 ^ 32 - 1, and else the answer at the bar
module _ {n bar : ℕ} (is : n ≡ bar) where
  pub beyond : (answer : Answer ℕ) → 4294967295 < n → refused 10 [] ≡ within_reach bar answer
  beyond answer h = rw (lt-leb bar 4294967295 (omega arith))

  pub within_reach_lem : (answer : ℕ → Answer ℕ) → n ≤ 4294967295 → answer n ≡ within_reach bar (answer bar)
  within_reach_lem answer h = rw (le-leb bar 4294967295 (omega arith)) (ap answer is)

-- ---- what passed

pub record Passes (t : Transport) (finding : Result Unit Refusal) : Type 0 where
  pub transport : sound t ≡ true
  pub lists : finding ≡ Ok tt

pub passes : (t : Transport) (finding : Result Unit Refusal) → Ok tt ≡ test_of t finding → Passes t finding
unfolding test_of
passes t finding e = go (sound t) finding refl refl e
  where
    go : (q : Bool) (f : Result Unit Refusal) → sound t ≡ q → finding ≡ f → Ok tt ≡ cond q f (Err Unsound) → Passes t finding
    go true f s l e = record { transport = s; lists = l ∙ sym e }
    go false f s l e = absurd cc

-- of two findings the worse is sound only where both are
pub both_sound : (a b : Result Unit Refusal) → worse a b ≡ Ok tt → (a ≡ Ok tt) × (b ≡ Ok tt)
both_sound (Ok u) b e = (refl, e)
both_sound (Err why) (Ok u) e = absurd cc
both_sound (Err why) (Err other) e = absurd cc

-- the lists of a sound tempo map are parallel
module _ (nums : List ℤ) (dens tempos : List ℕ) where
  pub parallel : map_test nums dens tempos ≡ Ok tt → Parallel nums dens tempos
  parallel e = (tempo.walkable nums dens tempos e).even

  module _ (t : Transport) where
    pub tempo_parallel : {test : Result Unit Refusal} → test ≡ test_of t (map_test nums dens tempos) → test ≡ Ok tt → Parallel nums dens tempos
    tempo_parallel e p = parallel (passes t (map_test nums dens tempos) (sym p ∙ e)).lists

    pub maps_parallel : (words : List ℕ) {test : Result Unit Refusal} → test ≡ test_of t (maps_test words nums dens tempos) → test ≡ Ok tt → Parallel nums dens tempos
    unfolding maps_test
    maps_parallel words e p = parallel (both_sound (words_test words) (map_test nums dens tempos) (passes t (maps_test words nums dens tempos) (sym p ∙ e)).lists).1
