-- Where beats and bars lie on a transport's frames: binary64 operations, each rounded once, in the order of document 01.
use Rattle.std.specs.Prelude.{ℕ, ◌+◌, ◌-◌, ◌*◌, ◌/◌, max, cond, List, [], ◌∷◌, pos, from_bits, Float}
use Rattle.std.specs.Float.{binary64}
use Rattle.std.specs.Float.Ieee.{of_int, to_signed, to_unsigned, add, sub, mul, div}
use Rattle.rounding.specs.Floats.{round_away, floor_of, maximum, clamp, float0, float1}
use Rattle.beats.specs.declared.Beat.{Beat}
use Rattle.beats.specs.Beats.{new_beat, zero_beat}
use Rattle.beats.specs.Sums.{below_beat}
use Rattle.beats.specs.Frames.{float60, beat_float, seconds_at, frames_at}
use Rattle.meter.specs.declared.MeterPoint.{MeterPoint}
use Rattle.meter.specs.Meters.{bar_len}
use Rattle.meter.specs.Starts.{start_of}
use Rattle.meter.specs.Counts.{count_at}
use Rattle.tempo.specs.Tempos.{TempoPoint, seconds_at_beat, beat_at_seconds}
use Rattle.transport.specs.declared.Transport.{Transport}

-- ---- seconds

-- the transport's own tempo: max(bpm, 1)
abbrev pub own_tempo : Float → Float
own_tempo bpm = maximum bpm float1

-- through the tempo map, or, where it has no points, beat * 60 / max(bpm, 1)
unfoldable pub seconds_of : Float → List TempoPoint → Float → Float
seconds_of bpm [] beat = seconds_at beat (own_tempo bpm)
seconds_of bpm (first ∷ rest) beat = seconds_at_beat (first ∷ rest) beat

-- back again: through the tempo map, or seconds * max(bpm, 1) / 60
unfoldable pub beats_of : Float → List TempoPoint → Float → Float
beats_of bpm [] seconds = div binary64 (mul binary64 seconds (own_tempo bpm)) float60
beats_of bpm (first ∷ rest) seconds = beat_at_seconds (first ∷ rest) seconds

-- ---- frames and beats

-- frames = seconds * rate, rounded half away from zero
unfoldable pub frame_at_beat : Transport → List TempoPoint → Float → ℕ
frame_at_beat t points beat = frames_at (seconds_of t.bpm points beat) t.sample_rate

-- seconds = frame / rate, and the beat there
unfoldable pub beat_at_frame : Transport → List TempoPoint → ℕ → Float
beat_at_frame t points frame = beats_of t.bpm points (div binary64 (of_int binary64 (pos frame)) (of_int binary64 (pos t.sample_rate)))

abbrev pub position_beats : Transport → List TempoPoint → Float
position_beats t points = beat_at_frame t points t.position

-- the frame of the whole beat after the position's
abbrev pub next_beat : Transport → List TempoPoint → ℕ
next_beat t points = frame_at_beat t points (add binary64 (floor_of binary64 (position_beats t points)) float1)

-- ---- bars

-- num / den
abbrev pub float_of : Beat → Float
float_of beat = beat_float beat.num beat.den

-- the frame of the beat that a bar starts at
unfoldable pub frame_at_bar : Transport → List MeterPoint → List TempoPoint → ℕ → ℕ
frame_at_bar t map points bar = frame_at_beat t points (float_of (start_of map t.beats_per_bar t.pickup bar))

-- 10 ^ 9, by its bits
abbrev pub billion : Float
billion = from_bits binary64 0x41cd_cd65_0000_0000

-- the beat nearest to a float, in steps of 1 / 10 ^ 9
unfoldable pub nearest_beat : Float → Beat
nearest_beat x = new_beat (to_signed 63 (round_away (mul binary64 x billion))) 1000000000

-- the bar that a beat lies in: one less than the bars that have gone by, and bar 0 where none has
abbrev pub current_bar : Transport → List MeterPoint → Beat → ℕ
current_bar t map beat = count_at map t.beats_per_bar t.pickup beat - 1

-- the part of a bar that has gone by at a beat: 0 where the bar lasts no time
unfoldable pub within : Beat → Beat → Beat → Float
within beat start len = cond (below_beat zero_beat len) (div binary64 (sub binary64 (float_of beat) (float_of start)) (float_of len)) float0

-- the bar that a beat lies in, and the part of it that has gone by, kept from 0 to 1
unfoldable pub bars_at : Transport → List MeterPoint → Beat → Float
bars_at t map beat =
    let bar = current_bar t map beat in
    let start = start_of map t.beats_per_bar t.pickup bar in
    let len = bar_len map t.beats_per_bar t.pickup bar in
    add binary64 (of_int binary64 (pos bar)) (clamp (within beat start len) float0 float1)

abbrev pub position_bars : Transport → List MeterPoint → List TempoPoint → Float
position_bars t map points = bars_at t map (nearest_beat (position_beats t points))

-- the first bar after `bar` on a grid of `every` bars from bar 0; 0 counts as 1
abbrev pub grid_bar : ℕ → ℕ → ℕ
grid_bar bar every = (bar / max every 1 + 1) * max every 1

-- the bar of the next line after the position on such a grid; it may be above 2 ^ 32 - 1
abbrev pub next_grid_bar : Transport → List MeterPoint → List TempoPoint → ℕ → ℕ
next_grid_bar t map points every = grid_bar (to_unsigned 32 (floor_of binary64 (position_bars t map points))) every
