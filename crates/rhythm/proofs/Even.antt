-- The pulses of `euclidean`, one by one, are the steps that its definition picks. Before step i there are k pulses exactly where
-- k * steps + pulses ≤ i * pulses + steps and i * pulses < k * steps + pulses; a step that is picked is the place of pulse k, and one that is not leaves k as it is.
use Rattle.std.proofs.Common.{◌≡◌, ℕ, zero, suc, ◌+◌, ◌-◌, ◌*◌, ◌/◌, ◌%◌, ◌<◌, ◌≤◌, Bool, true, false, ltb, [], ◌∷◌, ◌++◌, sym, refl, ap, ◌∙◌, subst, zero-le, mod-lt, mod-eq_of_lt, suc-mul, mul_comm, lt_of_mul-lt-mul_right, mul-lt-mul_of_pos_right, div-add-mod', zero-mul, add-one, arith, ltb-false, ltb-true, le-ltb}
use Rattle.std.proofs.Math.Nat.{div-eq_of_lt-le, sub-zero, add-mul-mod_self_right}
use Rattle.numbers.proofs.Laws.{by_order}
use Rattle.rounding.specs.Floats.{whole_above}
use Rattle.notes.specs.declared.Note.{Note}
use Rattle.notes.specs.Notes.{words_of, note_words}
use Rattle.numbers.specs.Lists.{entries}
use Rattle.rhythm.specs.Makes.{hits_from}

-- ---- rows of notes

-- what the filler writes in the turn at k, and what is left
pub row_turn : (note : ℕ → Note) (k count : ℕ) (m : Note) → k < count → m ≡ note k → words_of (entries note k (count - k)) ≡ note_words m ++ words_of (entries note (k + 1) (count - (k + 1)))
unfolding entries words_of
row_turn note k count m h q =
    let e : count - k ≡ suc (count - (k + 1)) = omega arith in
    rw (e, add-one) (ap (λ (x : Note). note_words x ++ words_of (entries note (suc k) (count - suc k))) (sym q))

pub row_end : (note : ℕ → Note) (k count : ℕ) → count ≤ k → words_of (entries note k (count - k)) ≡ []
unfolding entries words_of
row_end note k count h = let e : count - k ≡ 0 = omega arith in rw e

-- ---- the pulses

module _ (p s : ℕ) (pos-p : 0 < p) (le : p ≤ s) where
  -- k pulses stand before step i
  record Before (i k : ℕ) : Type 0 where
    least : k * s + p ≤ i * p + s
    most : i * p < k * s + p

  -- a step that is picked is the place of pulse k
  module _ (i k : ℕ) (b : Before i k) where
    parts : i * p / s * s + i * p % s ≡ i * p
    parts = div-add-mod' (i * p) s

    same_pulse : i * p % s < p → i * p / s ≡ k
    same_pulse h =
        let up : i * p / s * s < (k + 1) * s = omega (arith, parts, b.most) in
        let down : k * s < (i * p / s + 1) * s = omega (arith, parts, b.least) in
        let x : i * p / s < k + 1 = lt_of_mul-lt-mul_right s up in
        let y : k < i * p / s + 1 = lt_of_mul-lt-mul_right s down in
        omega arith

    at_place : i * p % s < p → whole_above (k * s) p ≡ i
    at_place h =
        let e : k * s + i * p % s ≡ i * p = ap (λ (q : ℕ). q * s + i * p % s) (sym (same_pulse h)) ∙ parts in
        div-eq_of_lt-le p (omega arith) (omega arith)

    picked : i * p % s < p → Before (suc i) (suc k)
    picked h =
        let e : k * s + i * p % s ≡ i * p = ap (λ (q : ℕ). q * s + i * p % s) (sym (same_pulse h)) ∙ parts in
        let m : i * p % s < s = mod-lt (i * p) (omega arith) in
        record { least = omega (arith, suc-mul i p, suc-mul k s); most = omega (arith, suc-mul i p, suc-mul k s) }

    short : p ≤ i * p % s → i * p < k * s
    short h = by_order (i * p) (k * s) (λ l. l) (λ l. absurd (none l))
      where
        none : k * s ≤ i * p → ⊥
        none l =
            let e : i * p - k * s + k * s ≡ i * p = omega arith in
            let m : i * p % s ≡ (i * p - k * s) % s = ap (λ (x : ℕ). x % s) (sym e) ∙ add-mul-mod_self_right (i * p - k * s) k s in
            let w : i * p - k * s < s = omega (arith, b.most) in
            omega (arith, m, mod-eq_of_lt w, b.most)

    skipped : p ≤ i * p % s → Before (suc i) k
    skipped h = record { least = omega (arith, suc-mul i p, b.least); most = omega (arith, suc-mul i p, short h) }

    -- where a step is picked there is a pulse left
    left : i < s → i * p % s < p → k < p
    left l h =
        let e : k * s + i * p % s ≡ i * p = ap (λ (q : ℕ). q * s + i * p % s) (sym (same_pulse h)) ∙ parts in
        let m : i * p < s * p = mul-lt-mul_of_pos_right l pos-p in
        lt_of_mul-lt-mul_right s (omega (arith, mul_comm s p))

  -- behind the last step there is none
  all_gone : (k : ℕ) → Before s k → p - k ≡ 0
  all_gone k b =
      let up : p * s < (k + 1) * s = omega (arith, b.most, mul_comm s p) in
      let x : p < k + 1 = lt_of_mul-lt-mul_right s up in
      omega arith

  module _ (note : ℕ → Note) where
    abbrev pulse : ℕ → Note
    pulse k = note (whole_above (k * s) p)

    from : (n i k : ℕ) → i + n ≡ s → Before i k → hits_from p s note i n ≡ entries pulse k (p - k)
    unfolding hits_from entries
    from zero i k e b = let q : i ≡ s = omega arith in sym (ap (entries pulse k) (all_gone k (subst (λ (x : ℕ). Before x k) q b)))
    from (suc n) i k e b = go (ltb (i * p % s) p) refl (from n (suc i) (suc k) (omega arith)) (from n (suc i) k (omega arith))
      where
        go : (t : Bool) → ltb (i * p % s) p ≡ t
            → (Before (suc i) (suc k) → hits_from p s note (suc i) n ≡ entries pulse (suc k) (p - suc k))
            → (Before (suc i) k → hits_from p s note (suc i) n ≡ entries pulse k (p - k))
            → elim t [ true ↦ note i ∷ hits_from p s note (suc i) n | false ↦ hits_from p s note (suc i) n ] ≡ entries pulse k (p - k)
        go true q f g =
            let h : i * p % s < p = ltb-true _ _ q in
            let l : k < p = left i k b (omega arith) h in
            let one : p - k ≡ suc (p - suc k) = omega arith in
            rw one (λ j. note (sym (at_place i k b h) j) ∷ f (picked i k b h) j)
        go false q f g = g (skipped i k b (ltb-false _ _ q))

-- no pulses, no hits
none_hit : (s : ℕ) (note : ℕ → Note) (n i : ℕ) → hits_from 0 s note i n ≡ []
unfolding hits_from
none_hit s note zero i = refl
none_hit s note (suc n) i =
    let q : ltb (i * 0 % s) 0 ≡ false = le-ltb (i * 0 % s) 0 zero-le in
    ap (λ (t : Bool). elim t [ true ↦ note i ∷ hits_from 0 s note (suc i) n | false ↦ hits_from 0 s note (suc i) n ]) q ∙ none_hit s note n (suc i)

pub even_hits : (p s : ℕ) → p ≤ s → (note : ℕ → Note) → entries (λ k. note (whole_above (k * s) p)) 0 p ≡ hits_from p s note 0 s
unfolding entries
even_hits zero s h note = sym (none_hit s note s 0)
even_hits (suc p) s h note =
    ap (entries (λ k. note (whole_above (k * s) (suc p))) 0) (sym (sub-zero (suc p)))
    ∙ sym (from (suc p) s (omega arith) h note s 0 0 (omega arith) (record { least = omega (arith, zero-mul s, zero-mul (suc p)); most = omega (arith, zero-mul s, zero-mul (suc p)) }))
