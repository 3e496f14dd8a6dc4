-- A sound transport stays sound: a refusal hands back the old one, and an accepted change is one of the crate transport's.
use Rattle.std.proofs.Common.{◌≡◌, ℕ, Bool, true, false, cond, List, [], ℤ, Result, Ok, Err}
use Rattle.numbers.specs.Answers.{Answer, accepted, refused}
use Rattle.meter.specs.Meters.{points_of}
use Rattle.numbers.specs.declared.refusal.Refusal.{Refusal}
use Rattle.numbers.specs.Refusals.{number_of, facts_of}
use Rattle.tempo.specs.Tempos.{tempo_points}
use Rattle.tempo.specs.Answers.{map_test}
use Rattle.transport.specs.declared.Transport.{Transport}
use Rattle.transport.specs.Transports.{sound, seek_to}
use Rattle.transport.specs.Changes.{handed, if_sound, loop_change}
use Rattle.transport.proofs.Laws as transport
use Rattle.timeline.specs.Places.{frame_at_beat, frame_at_bar}
use Rattle.timeline.specs.Tests.{maps_test, if_tested}
use Rattle.timeline.specs.Promise.{StaysSound, Promised}

module _ (t : Transport) (is : sound t ≡ true) where
  handed_back : (q : Bool) (number : ℕ) (facts : List ℕ) → sound (handed t (cond q (refused number facts) (refused 12 []))).transport ≡ true
  handed_back true number facts = is
  handed_back false number facts = is

  -- a change that keeps it sound by itself does so behind the test of the maps
  kept : (finding : Result Unit Refusal) (change : Answer Transport) → sound (if_sound t change).transport ≡ true → sound (handed t (if_tested t finding change)).transport ≡ true
  unfolding if_tested
  kept (Ok u) change h = h
  kept (Err why) change h = handed_back (sound t) (number_of why) (facts_of why)

  module _ (words : List ℕ) (nums : List ℤ) (dens tempos : List ℕ) where
    abbrev bar_frame : ℕ → ℕ
    bar_frame bar = frame_at_bar t (points_of words) (tempo_points nums dens tempos) bar

    stays_sound : StaysSound t words nums dens tempos
    stays_sound = record {
      sought_beat = λ beat.
          let frame = frame_at_beat t (tempo_points nums dens tempos) beat in
          kept (map_test nums dens tempos) (accepted (seek_to t frame)) ((transport.stays_sound t is).sought frame);
      sought_bar = λ bar. kept (maps_test words nums dens tempos) (accepted (seek_to t (bar_frame bar))) ((transport.stays_sound t is).sought (bar_frame bar));
      looped_bars = λ start end.
          kept (maps_test words nums dens tempos) (loop_change t (bar_frame start) (bar_frame end)) ((transport.stays_sound t is).looped (bar_frame start) (bar_frame end));
    }

pub promised : Promised
promised t words nums dens tempos is = stays_sound t is words nums dens tempos
