-- What the words of a clock are read as, by the test that they are one. Assumes nothing.
use mathlib.Core.Path.{◌≡◌}
use mathlib.Core.Bool.{true, false}
use mathlib.Core.List.{List}
use Prim.Native.Nat.{ℕ, ◌≤◌}
use borrow.Author.Tests.{leb-true, le-leb, eq-eqb, ne_eqb}
use lib.Dec.{leb}
use lib.IntN.{ℤ, nat_abs}
use lib.ListN.{get_or}
use mir.Syntax.{w64}
use mir.Val.{SFits, to_z, of_z}
use mir.ValLaws.{to_z-of_z}
use Rattle.numbers.proofs.Laws.{both}
use Rattle.clock_words.specs.Clocks.{clock_words, pickup_of, unfit, transport_of, clock_of}

-- the words that are read as 32 bits
pub record Shorts (words : List ℕ) : Type 0 where
  pub rate : get_or words 0 0 ≤ 4294967295
  pub bpm : get_or words 1 0 ≤ 4294967295
  pub beats : get_or words 2 0 ≤ 4294967295
  pub under : get_or words 10 0 ≤ 4294967295

pub shorts : (words : List ℕ) → clock_words words ≡ true → Shorts words
unfolding clock_words
shorts words h =
    let rate = both _ _ h in
    let bpm = both _ _ rate.1 in
    let beats = both _ _ bpm.1 in
    let under = both _ _ beats.1 in
    record {
      rate = leb-true _ _ rate.0;
      bpm = leb-true _ _ bpm.0;
      beats = leb-true _ _ beats.0;
      under = leb-true _ _ under.0;
    }

-- where all tests but the last have passed, the last decides
pub last_test : (words : List ℕ) → Shorts words → get_or words 5 0 ≤ 2 → leb (get_or words 6 0) 1 ≡ clock_words words
unfolding clock_words
last_test words s h = simp (le-leb _ _ s.rate, le-leb _ _ s.bpm, le-leb _ _ s.beats, le-leb _ _ s.under, le-leb _ _ h)

pub reads : (words : List ℕ) → clock_words words ≡ true → clock_of words ≡ transport_of words
unfolding clock_of
reads words h = rw h

pub reads_none : (words : List ℕ) → clock_words words ≡ false → clock_of words ≡ unfit
unfolding clock_of
reads_none words h = rw h
