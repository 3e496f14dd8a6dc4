-- Seconds and beats by whether the tempo map has points.
use Rattle.std.proofs.Common.{◌≡◌, ℕ, ◌<◌, List, length, ℤ}
use lib.Ieee.{Float, binary64, mul, div}
use Rattle.beats.specs.Frames.{float60, seconds_at}
use Rattle.tempo.specs.Tempos.{Parallel, tempo_points, seconds_at_beat, beat_at_seconds}
use Rattle.tempo.proofs.Laws.{no_points, points_step}
use Rattle.timeline.specs.Places.{own_tempo, seconds_of, beats_of}

module _ (bpm : Float) (nums : List ℤ) (dens tempos : List ℕ) where
  -- no points: the transport's own tempo
  module _ (none : length nums ≡ 0) where
    pub own_seconds : (beat : Float) → seconds_at beat (own_tempo bpm) ≡ seconds_of bpm (tempo_points nums dens tempos) beat
    unfolding seconds_of
    own_seconds beat = rw (no_points nums dens tempos none)

    pub own_beats : (seconds : Float) → div binary64 (mul binary64 seconds (own_tempo bpm)) float60 ≡ beats_of bpm (tempo_points nums dens tempos) seconds
    unfolding beats_of
    own_beats seconds = rw (no_points nums dens tempos none)

  -- points: the walk over them
  module _ (even : Parallel nums dens tempos) (some : 0 < length nums) where
    pub map_seconds : (beat : Float) → seconds_at_beat (tempo_points nums dens tempos) beat ≡ seconds_of bpm (tempo_points nums dens tempos) beat
    unfolding seconds_of
    map_seconds beat = rw (points_step nums dens tempos even 0 some)

    pub map_beats : (seconds : Float) → beat_at_seconds (tempo_points nums dens tempos) seconds ≡ beats_of bpm (tempo_points nums dens tempos) seconds
    unfolding beats_of
    map_beats seconds = rw (points_step nums dens tempos even 0 some)
