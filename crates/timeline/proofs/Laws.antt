-- What crates above may use of the timeline. They go by what was tested and by these equations, and unfold neither the tests nor `frame_at_bar`.
use Rattle.std.proofs.Common.{◌≡◌, ℕ, List, refl}
use Rattle.beats.specs.Frames.{frames_at}
use Rattle.meter.specs.declared.MeterPoint.{MeterPoint}
use Rattle.meter.specs.Starts.{start_of}
use Rattle.tempo.specs.Tempos.{TempoPoint}
use Rattle.transport.specs.declared.Transport.{Transport}
use Rattle.timeline.specs.Places.{float_of, seconds_of, frame_at_beat, frame_at_bar}
-- how a call answers by what was tested
pub use Rattle.timeline.proofs.Testing.{by_test}
-- what is known of a transport and of maps that passed: sound, and parallel lists
pub use Rattle.timeline.proofs.Testing.{passes, both_sound, parallel}
-- seconds where the tempo map has points
pub use Rattle.timeline.proofs.Tempos.{map_seconds}
-- a test that hands on the tempo map has one answer
pub use Rattle.timeline.proofs.Readings.{Tested, one_test}
-- a sound transport stays sound
pub use Rattle.timeline.proofs.Sound.{promised}

module _ (t : Transport) (map : List MeterPoint) (points : List TempoPoint) (bar : ℕ) where
  -- the frame of a bar: from its start to a float, to seconds, to frames
  pub bar_frame_lem : frame_at_bar t map points bar ≡ frames_at (seconds_of t.bpm points (float_of (start_of map t.beats_per_bar t.pickup bar))) t.sample_rate
  unfolding frame_at_bar frame_at_beat
  bar_frame_lem = refl
