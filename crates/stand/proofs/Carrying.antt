-- A clock goes from call to call: an accepted call changes position and state alone, which are written, and a refused one changes nothing. Assumes nothing.
use mathlib.Core.Path.{◌≡◌, refl, sym, ap, ◌∙◌}
use mathlib.Core.Bool.{Bool, true, false, cond}
use mathlib.Core.List.{List, []}
use Prim.Native.Nat.{ℕ}
use native.Mathlib.Omega.{arith}
use lib.ListN.{length as count}
use Rattle.numbers.proofs.Laws.{cases}
use Rattle.numbers.specs.Answers.{Answer, accepted, refused}
use Rattle.transport.specs.declared.Transport.{Transport}
use Rattle.transport.specs.Transports.{sound}
use Rattle.transport.specs.Advances.{advanced}
use Rattle.transport.proofs.Laws.{advanced_keeps, stays_sound}
use Rattle.cues.specs.Sounding.{cues}
use Rattle.cues.specs.CueCall.{cue_test, moved_by, handed_by}
use Rattle.cues.proofs.Laws.{stays_sound as cue-sound}
use Rattle.clock_words.specs.Clocks.{clock_words, clock_of, placed}
use Rattle.clock_words.proofs.Laws.{words_of, no_clock_unsound, reads_placed, by_words_lem}
use Rattle.stand.specs.Calls.{advanced_by, cued}
use Rattle.stand.specs.Words.{clock_after}
use Rattle.stand.specs.Promise.{Carries, CarriesOn, ClocksStaySound}

-- a test that is passed, behind one that refuses by 12
passed : (q : Bool) (next : Answer Unit) (u : Unit) → cond q next (refused 12 []) ≡ accepted u → q ≡ true
passed true next u e = refl
passed false next u e = absurd (let z : ◌≡◌ {A = ℕ} 0 1 = cc in omega arith)

-- a sound clock is a clock
is_clock : (words : List ℕ) → sound (clock_of words) ≡ true → clock_words words ≡ true
is_clock words s = cases (clock_words words) (λ e. e) (λ e. absurd (no_clock_unsound words e s))

module _ (rate bpm beats length position state loop start end num den : ℕ) where
  abbrev clock : List ℕ
  clock = words_of rate bpm beats length position state loop start end num den

  abbrev here : Transport
  here = clock_of clock

  -- an advance writes all that it changes
  moved : sound here ≡ true → (frames : ℕ) → clock_of (placed clock (advanced here frames).transport) ≡ (advanced here frames).transport
  moved s frames =
      let there = (advanced here frames).transport in
      let keeps = advanced_keeps here frames in
      ap (λ (t : Transport). clock_of (placed clock t)) keeps
      ∙ reads_placed rate bpm beats length position state loop start end num den (is_clock clock s) there.position there.state
      ∙ sym keeps

  advances : (frames : ℕ) → clock_of (clock_after clock (advanced_by clock frames)) ≡ (advanced_by clock frames).transport
  unfolding advanced_by
  advances frames = cases (sound here) (λ e. rw e (moved e frames)) (λ e. rw e)

  cue : (lines : List ℕ) (frames : ℕ) (out : List ℕ) → clock_of (clock_after clock (cued clock lines frames out)) ≡ (cued clock lines frames out).transport
  unfolding cued
  cue lines frames out = go (cue_test here lines frames out) refl
    where
      go : (a : Answer Unit) → cue_test here lines frames out ≡ a
          → clock_of (clock_after clock (handed_by here a (moved_by (advanced here frames) (count (cues lines here frames)))))
          ≡ (handed_by here a (moved_by (advanced here frames) (count (cues lines here frames)))).transport
      go (accepted u) e = moved (passed (sound here) _ u e) frames
      go (refused n facts) e = refl

pub carries : CarriesOn
carries =
    by_words_lem Carries
    (λ rate bpm beats length position state loop start end num den.
    record {
      advances = advances rate bpm beats length position state loop start end num den;
      cues = cue rate bpm beats length position state loop start end num den;
    })

-- what is handed back is sound
pub stay_sound : ClocksStaySound
unfolding advanced_by cued
stay_sound clock long fit =
    let c = carries clock long in
    record {
      advances = λ frames. ap sound (c.advances frames) ∙ (stays_sound (clock_of clock) fit).advances frames;
      cues = λ lines frames out. ap sound (c.cues lines frames out) ∙ cue-sound lines (clock_of clock) (record { frames = frames; out = out }) fit;
    }
