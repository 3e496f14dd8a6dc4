-- The contract of `TempoMap::new` has one answer: a map of the lists that are given, or 3, and never both.
use Rattle.std.proofs.Common.{◌≡◌, sym, ap, ◌∙◌, List, ℕ, ℤ, Result, Ok, Err, IfOk, IfErr}
use Rattle.numbers.specs.declared.refusal.Refusal.{Refusal}
use Rattle.numbers.specs.declared.refusal.Refusal.TheVariants.{Uneven}
use Rattle.tempo.specs.declared.map.TempoMap.{TempoMap}
use Rattle.tempo.specs.Tempos.{Parallel}

module _ (nums : List ℤ) (dens tempos : List ℕ) where
  -- what it ensures
  pub record Made (r : Result TempoMap Refusal) : Type 0 where
    pub even : IfOk r (λ map. (map.nums.now ≡ nums) × (map.dens.now ≡ dens) × (map.tempos.now ≡ tempos))
    pub uneven : IfErr r (λ why. (why ≡ Uneven) × (Parallel nums dens tempos → ⊥))

  abbrev pub lists_of : Result TempoMap Refusal → Result (List ℤ × List ℕ × List ℕ) Refusal
  lists_of (Ok map) = Ok (map.nums.now, map.dens.now, map.tempos.now)
  lists_of (Err why) = Err why

  parallel : (map : TempoMap) → (map.nums.now ≡ nums) × (map.dens.now ≡ dens) × (map.tempos.now ≡ tempos) → Parallel nums dens tempos
  parallel map e = record {
    even_dens = rw (sym e.0, sym e.1) map.parallel.even_dens;
    even_tempos = rw (sym e.0, sym e.2) map.parallel.even_tempos;
  }

  one_of : (r s : Result TempoMap Refusal) → Made r → Made s → lists_of r ≡ lists_of s
  one_of (Ok a) (Ok b) p q = cc (p.even.0, p.even.1, p.even.2, q.even.0, q.even.1, q.even.2)
  one_of (Ok a) (Err b) p q = absurd (q.uneven.1 (parallel a p.even))
  one_of (Err a) (Ok b) p q = absurd (p.uneven.1 (parallel b q.even))
  one_of (Err a) (Err b) p q = ap Err (p.uneven.0 ∙ sym q.uneven.0)

pub one_map : (nums : List ℤ) (dens tempos : List ℕ) (r s : Result TempoMap Refusal) → Made nums dens tempos r → Made nums dens tempos s → lists_of nums dens tempos r ≡ lists_of nums dens tempos s
one_map nums dens tempos r s p q = one_of nums dens tempos r s p q
