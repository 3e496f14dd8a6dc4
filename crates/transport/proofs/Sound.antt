-- A sound transport stays sound: no call moves it past its length, gives it a bad loop or touches its pickup.
use mathlib.Core.Path.{◌≡◌, refl, sym, ap, ◌∙◌}
use mathlib.Core.Bool.{Bool, true, false, cond}
use mathlib.Core.List.{[]}
use Prim.Native.Nat.{ℕ, min, ◌-◌, ◌≤◌, ◌^◌}
use native.Mathlib.Omega.{arith}
use lib.Ieee.{Float}
use borrow.Author.Tests.{le-leb}
use Rattle.numbers.specs.Answers.{Answer, accepted, refused}
use Rattle.std.specs.Prelude.{Option, Some, None}
use Rattle.beats.specs.declared.Beat.{Beat}
use Rattle.meter.specs.Meters.{sound_pickup}
use Rattle.transport.specs.declared.PlayState.{PlayState}
use Rattle.transport.specs.declared.PlayState.TheVariants.{Stopped, Playing, Paused}
use Rattle.transport.specs.declared.LoopRange.{LoopRange}
use Rattle.transport.specs.declared.playhead.Stands.{Stands}
use Rattle.transport.specs.declared.playhead.Stands.TheVariants.{At, Wrapped, Ended}
use Rattle.transport.specs.declared.playhead.Run.{Run}
use Rattle.transport.specs.declared.Transport.{Transport}
use Rattle.transport.specs.Transports.{good_loop, sound_loop, sound, made, moved_to, looping_by, seek_to}
use Rattle.transport.specs.Changes.{Handed, handed, if_sound, loop_change}
use Rattle.transport.specs.Advances.{Moves, reached, came, advanced}
use Rattle.transport.specs.Promise.{MadeSound, StaysSound}
use Rattle.transport.proofs.Loops.{sound_position, sound_loop_lem, sound_pickup_lem}
use Rattle.transport.proofs.Cases.{fit, advance_fit}
use Rattle.transport.proofs.Carrying.{place_of, stands_within}
use Rattle.transport.proofs.Advancing.{place_after, by_playing}

-- ---- transports made

sound_by : (t : Transport) → t.position ≤ t.length → sound_loop t.length t.looping ≡ true → sound_pickup t.pickup ≡ true → sound t ≡ true
unfolding sound
sound_by t position loop pickup = simp (le-leb t.position t.length position, loop, pickup)

module _ (rate : ℕ) (bpm : Float) (beats : ℕ) where
  made_sound : (length : ℕ) (pickup : Option Beat) → sound_pickup pickup ≡ true → sound (made rate bpm beats length pickup) ≡ true
  made_sound length pickup is = sound_by (made rate bpm beats length pickup) (omega arith) refl is

  accepted_sound : (length : ℕ) (pickup : Option Beat) (t : Transport) (q : Bool) → sound_pickup pickup ≡ q
      → cond q (accepted (made rate bpm beats length pickup)) (refused 1 []) ≡ accepted t → sound t ≡ true
  accepted_sound length pickup t true is e = let same : made rate bpm beats length pickup ≡ t = cc in ap sound (sym same) ∙ made_sound length pickup is
  accepted_sound length pickup t false is e = absurd (let z : ◌≡◌ {A = ℕ} 0 1 = cc in omega arith)

  pub sound_made : MadeSound rate bpm beats
  sound_made = record { constant = made_sound (2 ^ 64 - 1) None refl; with_length = λ length pickup t e. accepted_sound length pickup t (sound_pickup pickup) refl e }

-- ---- a sound transport changed

module _ (t : Transport) (is : sound t ≡ true) where
  pub moved_sound : (position : ℕ) (state : PlayState) → position ≤ t.length → sound (moved_to t position state) ≡ true
  moved_sound position state h = sound_by (moved_to t position state) h (sound_loop_lem t is) (sound_pickup_lem t is)

  sought_sound : (frame : ℕ) → sound (seek_to t frame) ≡ true
  sought_sound frame = moved_sound (min frame t.length) t.state (omega arith)

  looping_sound : (looping : Option LoopRange) → sound_loop t.length looping ≡ true → sound (looping_by t looping) ≡ true
  looping_sound looping good = sound_by (looping_by t looping) (sound_position t is) good (sound_pickup_lem t is)

-- ---- a run

module _ (t : Transport) (is : sound t ≡ true) where
  came_sound : (place : Stands) → place_of t.length place ≤ t.length → sound (came t place).transport ≡ true
  came_sound (At frame) h = moved_sound t is frame Playing h
  came_sound (Wrapped frame) h = moved_sound t is frame Playing h
  came_sound Ended h = moved_sound t is t.length Stopped h

  pub advanced_sound : (frames : ℕ) → sound (advanced t frames).transport ≡ true
  advanced_sound frames = by_playing t frames (λ (r : Run). sound r.transport ≡ true)
      (λ p. came_sound (place_after t frames) (omega (arith, stands_within t.length t.looping (reached t.position frames) (sound_loop_lem t is)))) (λ p. is)

  -- ---- the calls

  kept : (change : Answer Transport) → sound (handed t change).transport ≡ true → sound (if_sound t change).transport ≡ true
  kept change h = ap (λ (d : Handed Unit). sound d.transport) (sym (fit t change is)) ∙ h

  looped_sound : (start end : ℕ) → sound (handed t (loop_change t start end)).transport ≡ true
  looped_sound start end = go (good_loop t.length start end) refl
    where
      go : (q : Bool) → good_loop t.length start end ≡ q → sound (handed t (cond q (accepted (looping_by t (Some (record { start = start; end = end })))) (refused 9 []))).transport ≡ true
      go true good = looping_sound t is (Some (record { start = start; end = end })) good
      go false bad = is

  pub stays_sound : StaysSound t
  stays_sound = record {
    played = kept (accepted (moved_to t t.position Playing)) (moved_sound t is t.position Playing (sound_position t is));
    paused = kept (accepted (moved_to t t.position Paused)) (moved_sound t is t.position Paused (sound_position t is));
    stopped = kept (accepted (moved_to t 0 Stopped)) (moved_sound t is 0 Stopped (omega arith));
    sought = λ frame. kept (accepted (seek_to t frame)) (sought_sound t is frame);
    looped = λ start end. kept (loop_change t start end) (looped_sound start end);
    unlooped = kept (accepted (looping_by t None)) (looping_sound t is None refl);
    advances = λ frames. ap (λ (d : Handed Moves). sound d.transport) (sym (advance_fit t frames is)) ∙ advanced_sound frames;
  }
