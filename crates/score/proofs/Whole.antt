-- What the tests of a score file say of its words, and the two outcomes of reading it.
use mathlib.Core.Path.{◌≡◌, sym, ap, ◌∙◌}
use mathlib.Core.Bool.{true, false}
use mathlib.Core.List.{List, [], ◌++◌}
use Prim.Native.Nat.{ℕ, ◌+◌, ◌*◌, ◌≤◌, ◌<◌}
use native.Mathlib.Omega.{arith}
use borrow.Author.Tests.{le-leb, lt-leb, leb-true, eqb-true}
use lib.Dec.{leb, eqb}
use lib.IntN.{ℤ}
use lib.ListN.{length, drop}
use Rattle.numbers.specs.Answers.{accepted, refused}
use Rattle.numbers.proofs.Laws.{both}
use Rattle.score.specs.declared.Score.{Score}
use Rattle.score.specs.Bytes.{word_at, number_at, each}
use Rattle.score.specs.Format.{edition, meter_count, meter_offset, tempo_count, tempo_offset, total, laid_out, pickup_good, beats_good, is_score, score_of}
use Rattle.score.specs.Format.{meter_words, tempo_nums, tempo_dens, tempo_bits}
use Rattle.score.specs.Answers.{score_answer, after}
use Rattle.score.proofs.Places.{each_length}

-- the counts and the length of a file whose parts follow without gaps
pub record Laid (b : List ℕ) : Type 0 where
  pub few : meter_count b ≤ 256
  pub points : tempo_count b ≤ 1024
  pub tempo : tempo_offset b ≡ 48 + 12 * meter_count b
  pub whole : length b ≡ 48 + 12 * meter_count b + 16 * tempo_count b

pub laid : (b : List ℕ) → laid_out b ≡ true → Laid b
unfolding laid_out
laid b e =
    let m = (both (eqb (edition b) 1) _ e).1 in
    let a = both (leb (meter_count b) 256) _ m in
    let t = (both (eqb (meter_offset b) 48) _ a.1).1 in
    let c = both (leb (tempo_count b) 1024) _ t in
    let o = both (eqb (tempo_offset b) (48 + 12 * meter_count b)) _ c.1 in
    let n = both (eqb (total b) (48 + 12 * meter_count b + 16 * tempo_count b)) _ o.1 in
    record {
      few = leb-true (meter_count b) 256 a.0;
      points = leb-true (tempo_count b) 1024 c.0;
      tempo = eqb-true (tempo_offset b) (48 + 12 * meter_count b) o.0;
      whole = eqb-true (length b) (total b) n.1 ∙ eqb-true (total b) (48 + 12 * meter_count b + 16 * tempo_count b) n.0;
    }

pub score_laid : (b : List ℕ) → is_score b ≡ true → Laid b
unfolding is_score
score_laid b e = laid b (both (laid_out b) _ (both (leb 48 (length b)) _ e).1).0

module _ (b : List ℕ) where
  pub short : length b < 48 → false ≡ is_score b
  unfolding is_score
  short h = simp (lt-leb 48 (length b) h)

  pub not_laid : 48 ≤ length b → laid_out b ≡ false → false ≡ is_score b
  unfolding is_score
  not_laid h e = simp (le-leb 48 (length b) h, e)

  pub not_pickup : 48 ≤ length b → laid_out b ≡ true → pickup_good b ≡ false → false ≡ is_score b
  unfolding is_score
  not_pickup h e f = simp (le-leb 48 (length b) h, e, f)

  pub by_beats : 48 ≤ length b → laid_out b ≡ true → pickup_good b ≡ true → beats_good b (tempo_offset b) (tempo_count b) ≡ is_score b
  unfolding is_score
  by_beats h e f = simp (le-leb 48 (length b) h, e, f)

-- ---- the outcomes

module _ (b : List ℕ) (bad : is_score b ≡ false) where
  pub refused_is : refused 13 [] ≡ score_answer b
  unfolding score_answer
  refused_is = simp bad

  pub kept : {A : Type 0} (new old : List A) → old ≡ after b new old
  unfolding after
  kept new old = simp bad

module _ (b : List ℕ) (good : is_score b ≡ true) where
  pub accepted_is : (s : Score) → s ≡ score_of b → accepted s ≡ score_answer b
  unfolding score_answer
  accepted_is s e = simp good (ap accepted e)

  -- a list read at places
  filled : {A : Type 0} (read : ℕ → A) (place step count : ℕ) (old : List A)
      → each read place step count ++ drop count old ≡ after b (each read place step count) old
  unfolding after
  filled {A} read place step count old = simp good (ap (λ (k : ℕ). each read place step count ++ drop k old) (sym (each_length read place step count)))

  pub meter_filled : (old : List ℕ) {m n : ℕ} {new : List ℕ} → m ≡ meter_count b → n ≡ 3 * m → new ≡ each (word_at b) 48 4 n ++ drop n old → new ≡ after b (meter_words b) old
  unfolding meter_words
  meter_filled old e f h = h ∙ ap (λ (k : ℕ). each (word_at b) 48 4 k ++ drop k old) (f ∙ ap (λ (k : ℕ). 3 * k) e) ∙ filled (word_at b) 48 4 (3 * meter_count b) old

  module _ {place count : ℕ} (e : place ≡ tempo_offset b) (f : count ≡ tempo_count b) where
    pub nums_filled : (old : List ℤ) {new : List ℤ} → new ≡ each (number_at b) place 16 count ++ drop count old → new ≡ after b (tempo_nums b) old
    unfolding tempo_nums
    nums_filled old h = h ∙ rw (e, f) (filled (number_at b) (tempo_offset b) 16 (tempo_count b) old)

    pub dens_filled : (old : List ℕ) {new : List ℕ} → new ≡ each (word_at b) (place + 8) 16 count ++ drop count old → new ≡ after b (tempo_dens b) old
    unfolding tempo_dens
    dens_filled old h = h ∙ rw (e, f) (filled (word_at b) (tempo_offset b + 8) 16 (tempo_count b) old)

    pub bits_filled : (old : List ℕ) {new : List ℕ} → new ≡ each (word_at b) (place + 12) 16 count ++ drop count old → new ≡ after b (tempo_bits b) old
    unfolding tempo_bits
    bits_filled old h = h ∙ rw (e, f) (filled (word_at b) (tempo_offset b + 12) 16 (tempo_count b) old)

-- ---- the same of the numbers that were read

pub record Known (b : List ℕ) (m t at : ℕ) : Type 0 where
  pub m_is : m ≡ meter_count b
  pub t_is : t ≡ tempo_count b
  pub at_is : at ≡ tempo_offset b
  pub few : m ≤ 256
  pub points : t ≤ 1024
  pub tempo : at ≡ 48 + 12 * m
  pub whole : length b ≡ 48 + 12 * m + 16 * t

pub known : (b : List ℕ) (s : Score) (at : ℕ) → is_score b ≡ true → s ≡ score_of b → at ≡ tempo_offset b → Known b s.meters s.tempos at
unfolding score_of
known b s at e h a =
    let l = score_laid b e in
    let p : s.meters ≡ meter_count b = ap (λ (x : Score). x.meters) h in
    let q : s.tempos ≡ tempo_count b = ap (λ (x : Score). x.tempos) h in
    record {
      m_is = p;
      t_is = q;
      at_is = a;
      few = omega arith;
      points = omega arith;
      tempo = omega arith;
      whole = omega arith;
    }
