-- The header's twelve words say the score, both ways: a header that says it is well laid out and is read as the score, and a file's header says the score that is read.
use mathlib.Core.Path.{◌≡◌, refl, sym}
use mathlib.Core.Bool.{Bool, true, false, cond, ◌&&◌}
use mathlib.Core.List.{List}
use Prim.Native.Nat.{ℕ, ◌+◌, ◌*◌}
use native.Mathlib.Omega.{arith}
use borrow.Author.Tests.{eqb-true, ltb-true, eq-eqb, ne_eqb}
use lib.Dec.{leb, ltb, eqb}
use lib.IntN.{nat_abs}
use lib.ListN.{length}
use Rattle.numbers.specs.Signs.{fits_i64}
use Rattle.numbers.specs.Divisor.{gcd_of}
use Rattle.numbers.proofs.Laws.{both}
use Rattle.numbers.specs.Bits.{bits_of}
use Rattle.beats.specs.Beats.{is_beat}
use Rattle.std.proofs.Common.{Option, Some, None}
use Rattle.beats.specs.declared.Beat.{Beat}
use Rattle.meter.specs.Meters.{sound_pickup}
use Rattle.score.specs.declared.Score.{Score}
use Rattle.score.specs.Bytes.{word_at, number_at, each}
use Rattle.score.specs.Format.{tempo_offset_for, total_for, laid_out, pickup_good, pickup_of, score_of}
use Rattle.score_writer.specs.Files.{low_word, high_word, pickup_beat, header_words}
use Rattle.score_writer.specs.Answers.{few_points}
use Rattle.score_writer.specs.Promise.{AllBelow}
use Rattle.score_writer.proofs.Places.{number_at_lem, low_again, high_again}

pub record PickupSaid (b : List ℕ) (pickup : Option Beat) : Type 0 where
  pub den : word_at b 16 ≡ (pickup_beat pickup).den
  pub lower : word_at b 20 ≡ low_word (pickup_beat pickup).num
  pub higher : word_at b 24 ≡ high_word (pickup_beat pickup).num

pub record HeaderSaid (b : List ℕ) (score : Score) : Type 0 where
  pub edition : word_at b 0 ≡ 1
  pub rate : word_at b 4 ≡ score.rate
  pub beats : word_at b 8 ≡ score.beats
  pub bpm : word_at b 12 ≡ score.bpm
  pub pickup : PickupSaid b score.pickup
  pub meters : word_at b 28 ≡ score.meters
  pub meter_at_lem : word_at b 32 ≡ 48
  pub tempos : word_at b 36 ≡ score.tempos
  pub tempo_at_lem : word_at b 40 ≡ tempo_offset_for score.meters
  pub total : word_at b 44 ≡ total_for score.meters score.tempos

-- ---- a header that says a score

pub pickup_back : (b : List ℕ) (pickup : Option Beat) → PickupSaid b pickup → sound_pickup pickup ≡ true → fits_i64 (pickup_beat pickup).num ≡ true
    → (pickup_of b ≡ pickup) × (pickup_good b ≡ true)
unfolding pickup_of pickup_good bits_of
pickup_back b None said sound fits =
    let none = eq-eqb (word_at b 16) 0 said.den in
    (simp none, simp (none, eq-eqb (word_at b 20) 0 said.lower, eq-eqb (word_at b 24) 0 said.higher))
pickup_back b (Some beat) said sound fits =
    let num = number_at_lem b 20 beat.num fits said.lower said.higher in
    let some = ltb-true 0 beat.den (both (ltb 0 beat.den) (eqb (gcd_of (nat_abs beat.num) beat.den) 1) sound).0 in
    let there = ne_eqb beat.den 0 (λ q. omega arith) in
    (simp (said.den, there, num), simp (said.den, there, num) sound)

module _ (b : List ℕ) (score : Score) (said : HeaderSaid b score) where
  pub laid_back : few_points score ≡ true → length b ≡ total_for score.meters score.tempos → laid_out b ≡ true
  unfolding laid_out
  laid_back few long =
      let f = both (leb score.meters 256) (leb score.tempos 1024) few in
      let o = eq-eqb (48 + 12 * score.meters) (48 + 12 * score.meters) refl in
      let t = eq-eqb (48 + 12 * score.meters + 16 * score.tempos) (48 + 12 * score.meters + 16 * score.tempos) refl in
      simp (said.edition, said.meters, said.meter_at_lem, said.tempos, said.tempo_at_lem, said.total, long, f.0, f.1, o, t)

  pub score_back : pickup_of b ≡ score.pickup → score_of b ≡ score
  unfolding score_of
  score_back e = simp (said.rate, said.beats, said.bpm, e, said.meters, said.tempos)

-- ---- what a file's header says

pickup_said : (b : List ℕ) → AllBelow 256 b → pickup_good b ≡ true → PickupSaid b (pickup_of b)
unfolding pickup_of pickup_good bits_of
pickup_said b all good = go (eqb (word_at b 16) 0) refl good
  where
    go : (t : Bool) → eqb (word_at b 16) 0 ≡ t
        → cond t (eqb (word_at b 20) 0 && eqb (word_at b 24) 0) (is_beat (record { num = number_at b 20; den = word_at b 16 })) ≡ true
        → PickupSaid b (cond t None (Some (record { num = number_at b 20; den = word_at b 16 })))
    go true e h =
        let w = both (eqb (word_at b 20) 0) (eqb (word_at b 24) 0) h in
        record { den = eqb-true (word_at b 16) 0 e; lower = eqb-true (word_at b 20) 0 w.0; higher = eqb-true (word_at b 24) 0 w.1 }
    go false e h = record { den = refl; lower = sym (low_again b all 20); higher = sym (high_again b all 20) }

pub header_said : (b : List ℕ) → AllBelow 256 b → laid_out b ≡ true → pickup_good b ≡ true → HeaderSaid b (score_of b)
unfolding laid_out score_of
header_said b all laid good =
    let m = word_at b 28 in
    let t = word_at b 36 in
    let e = both (eqb (word_at b 0) 1) _ laid in
    let f = both (leb m 256) _ e.1 in
    let o = both (eqb (word_at b 32) 48) _ f.1 in
    let s = both (leb t 1024) _ o.1 in
    let p = both (eqb (word_at b 40) (48 + 12 * m)) _ s.1 in
    let n = both (eqb (word_at b 44) (48 + 12 * m + 16 * t)) _ p.1 in
    record {
      edition = eqb-true (word_at b 0) 1 e.0;
      rate = refl;
      beats = refl;
      bpm = refl;
      pickup = pickup_said b all good;
      meters = refl;
      meter_at_lem = eqb-true (word_at b 32) 48 o.0;
      tempos = refl;
      tempo_at_lem = eqb-true (word_at b 40) (48 + 12 * m) p.0;
      total = eqb-true (word_at b 44) (48 + 12 * m + 16 * t) n.0;
    }

pub header_again : (b : List ℕ) (score : Score) → HeaderSaid b score → header_words score ≡ each (word_at b) 0 4 12
unfolding header_words each
header_again b score said = let pickup = said.pickup in cc
