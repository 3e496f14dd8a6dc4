-- The calls, each with its refusals: 12, then 3, 4 and 1 of the maps, then its own.
use Rattle.std.specs.Prelude.{ℕ, cond, List, [], ℤ, nat_le, Float}
use Rattle.numbers.specs.Answers.{Answer, accepted, refused}
use Rattle.meter.specs.Meters.{points_of}
use Rattle.tempo.specs.Tempos.{tempo_points}
use Rattle.tempo.specs.Answers.{map_test}
use Rattle.transport.specs.declared.Transport.{Transport}
use Rattle.transport.specs.Transports.{seek_to}
use Rattle.transport.specs.Changes.{Handed, handed, loop_change}
use Rattle.timeline.specs.Places.{frame_at_beat, beat_at_frame, frame_at_bar, next_beat, position_beats, position_bars, next_grid_bar}
use Rattle.timeline.specs.Tests.{maps_test, if_tested}

-- ---- through the tempo map

module _ (t : Transport) where
  abbrev pub frame_at_beat_answer : Float → List ℤ → List ℕ → List ℕ → Answer ℕ
  frame_at_beat_answer beat nums dens tempos = if_tested t (map_test nums dens tempos) (accepted (frame_at_beat t (tempo_points nums dens tempos) beat))

  abbrev pub beat_at_frame_answer : ℕ → List ℤ → List ℕ → List ℕ → Answer Float
  beat_at_frame_answer frame nums dens tempos = if_tested t (map_test nums dens tempos) (accepted (beat_at_frame t (tempo_points nums dens tempos) frame))

  abbrev pub next_beat_answer : List ℤ → List ℕ → List ℕ → Answer ℕ
  next_beat_answer nums dens tempos = if_tested t (map_test nums dens tempos) (accepted (next_beat t (tempo_points nums dens tempos)))

  abbrev pub position_beats_answer : List ℤ → List ℕ → List ℕ → Answer Float
  position_beats_answer nums dens tempos = if_tested t (map_test nums dens tempos) (accepted (position_beats t (tempo_points nums dens tempos)))

  abbrev pub seek_beat_answer : Float → List ℤ → List ℕ → List ℕ → Handed Unit
  seek_beat_answer beat nums dens tempos = handed t (if_tested t (map_test nums dens tempos) (accepted (seek_to t (frame_at_beat t (tempo_points nums dens tempos) beat))))

-- ---- through both maps

-- 10 where the bar is above 2 ^ 32 - 1
abbrev pub within_reach : ℕ → Answer ℕ → Answer ℕ
within_reach bar answer = cond (nat_le bar 4294967295) answer (refused 10 [])

module _ (t : Transport) where
  abbrev pub frame_at_bar_answer : ℕ → List ℕ → List ℤ → List ℕ → List ℕ → Answer ℕ
  frame_at_bar_answer bar words nums dens tempos =
      if_tested t (maps_test words nums dens tempos) (accepted (frame_at_bar t (points_of words) (tempo_points nums dens tempos) bar))

  abbrev pub position_bars_answer : List ℕ → List ℤ → List ℕ → List ℕ → Answer Float
  position_bars_answer words nums dens tempos =
      if_tested t (maps_test words nums dens tempos) (accepted (position_bars t (points_of words) (tempo_points nums dens tempos)))

  abbrev pub next_bar_answer : ℕ → List ℕ → List ℤ → List ℕ → List ℕ → Answer ℕ
  next_bar_answer every words nums dens tempos =
      let map = points_of words in
      let points = tempo_points nums dens tempos in
      let bar = next_grid_bar t map points every in
      if_tested t (maps_test words nums dens tempos) (within_reach bar (accepted (frame_at_bar t map points bar)))

  abbrev pub seek_bar_answer : ℕ → List ℕ → List ℤ → List ℕ → List ℕ → Handed Unit
  seek_bar_answer bar words nums dens tempos =
      handed t (if_tested t (maps_test words nums dens tempos) (accepted (seek_to t (frame_at_bar t (points_of words) (tempo_points nums dens tempos) bar))))

  -- 9 where the loop is bad
  abbrev pub loop_bars_answer : ℕ → ℕ → List ℕ → List ℤ → List ℕ → List ℕ → Handed Unit
  loop_bars_answer start end words nums dens tempos =
      let map = points_of words in
      let points = tempo_points nums dens tempos in
      handed t (if_tested t (maps_test words nums dens tempos) (loop_change t (frame_at_bar t map points start) (frame_at_bar t map points end)))
