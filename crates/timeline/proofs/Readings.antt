-- The contract of a test that hands on the tempo map has one answer: the map of the lists that are given, or what refuses it, and never both.
use Rattle.std.proofs.Common.{◌≡◌, sym, ◌∙◌, List, ℕ, ℤ, Result, Ok, Err, IfOk}
use Rattle.numbers.specs.declared.refusal.Refusal.{Refusal}
use Rattle.tempo.specs.declared.map.TempoMap.{TempoMap}
use Rattle.tempo.proofs.Laws.{lists_of}
use Rattle.timeline.specs.Tests.{told}

module _ (finding : Result Unit Refusal) (nums : List ℤ) (dens tempos : List ℕ) where
  -- what it ensures
  pub record Tested (r : Result TempoMap Refusal) : Type 0 where
    pub test : told r ≡ finding
    pub lists : IfOk r (λ map. (map.nums.now ≡ nums) × (map.dens.now ≡ dens) × (map.tempos.now ≡ tempos))

  one_of : (r s : Result TempoMap Refusal) → Tested r → Tested s → lists_of nums dens tempos r ≡ lists_of nums dens tempos s
  one_of (Ok a) (Ok b) p q = cc (p.lists.0, p.lists.1, p.lists.2, q.lists.0, q.lists.1, q.lists.2)
  one_of (Ok a) (Err b) p q = absurd (let e : told {A = TempoMap} (Ok a) ≡ told {A = TempoMap} (Err b) = p.test ∙ sym q.test in cc)
  one_of (Err a) (Ok b) p q = absurd (let e : told {A = TempoMap} (Err a) ≡ told {A = TempoMap} (Ok b) = p.test ∙ sym q.test in cc)
  one_of (Err a) (Err b) p q = let e : told {A = TempoMap} (Err a) ≡ told {A = TempoMap} (Err b) = p.test ∙ sym q.test in cc

pub one_test : (finding : Result Unit Refusal) (nums : List ℤ) (dens tempos : List ℕ) (r s : Result TempoMap Refusal) → Tested finding nums dens tempos r → Tested finding nums dens tempos s → lists_of nums dens tempos r ≡ lists_of nums dens tempos s
one_test finding nums dens tempos r s p q = one_of finding nums dens tempos r s p q
