-- What is carried from line to line: a segment of bars of one length, and where the walks over the tempo map stand.
use Rattle.std.specs.Prelude.{Bool, cond, ◌≡◌, List, [], ◌∷◌, ℕ, ◌+◌, ◌-◌, ◌≤◌, ◌<◌, T, leb, ltb, eqb, ℤ, Float, length, drop, Option}
use Rattle.std.specs.Float.Ieee.{le}
use Rattle.beats.specs.declared.Beat.{Beat}
use Rattle.beats.specs.Beats.{zero_beat}
use Rattle.beats.specs.Sums.{add_beats, or_most}
use Rattle.meter.specs.declared.MeterPoint.{MeterPoint}
use Rattle.meter.specs.Meters.{bar_len}
use Rattle.meter.specs.Starts.{after_bars, segments, start_of}
use Rattle.tempo.specs.Tempos.{TempoPoint, tempo_points, elapsed, walk, reaches, seconds_to, seconds_at_beat}
use Rattle.filler.specs.declared.segments.Segment.{Segment}
use Rattle.filler.specs.declared.stands.Stand.{Stand}
use Rattle.filler.specs.Numbers.{force_of}

-- ---- the segment

-- a bar begins a segment: bar 1, and from there on each bar that a point is listed for
abbrev pub begins : ℕ → ℕ → Bool
begins bar mark = cond (leb bar 1) (eqb bar 1) (ltb 0 mark)

-- where a segment ends that the bar `bar` follows: bar 0 is added as it is, the bars of others are scaled
unfoldable pub end_of : Segment → ℕ → Beat
end_of s bar = cond (eqb s.first 0) (or_most (add_beats s.at s.len)) (after_bars s.at s.len (bar - s.first))

-- where a bar of the segment starts
unfoldable pub start_in : Segment → ℕ → Beat
start_in s bar = cond (eqb bar s.first) s.at (after_bars s.at s.len (bar - s.first))

-- no point is listed for a bar between two bars
abbrev pub Clear : ℕ → ℕ → List MeterPoint → Type 0
Clear first bar [] = Unit
Clear first bar (point ∷ rest) = (first < point.bar → bar ≤ point.bar) × Clear first bar rest

module _ (map : List MeterPoint) (default : ℕ) (pickup : Option Beat) where
  -- bar 0 alone
  pub record Opened (s : Segment) : Type 0 where
    pub first : s.first ≡ 0
    pub at : s.at ≡ zero_beat
    pub len : s.len ≡ bar_len map default pickup 0

  -- a segment that reaches up to `bar`: the walk goes on from it to every later bar
  pub record Reaching (bar : ℕ) (s : Segment) : Type 0 where
    pub above : 0 < s.first
    pub below : s.first < bar
    pub clear : Clear s.first bar map
    pub len : s.len ≡ bar_len map default pickup s.first
    pub walks : (end : ℕ) → s.first ≤ end → segments map default pickup (end - s.first) s.first end s.at ≡ start_of map default pickup end

  -- what is carried to a bar
  pub record Before (bar : ℕ) (s : Segment) : Type 0 where
    pub number : s.number ≡ force_of map bar
    pub opened : bar ≤ 1 → Opened s
    pub reaching : 1 < bar → Reaching bar s

  -- and from it: the bar is in the segment
  pub record Has (bar : ℕ) (s : Segment) : Type 0 where
    pub next : Before (bar + 1) s
    pub start : start_in s bar ≡ start_of map default pickup bar

-- ---- the tempo walk

-- the walk for a beat over the points that are left, from where it stands
abbrev pub going_on : Float → List TempoPoint → Stand → Float
going_on beat left w = walk (reaches beat) (seconds_to beat) left w.secs w.from w.tempo

module _ (nums : List ℤ) (dens tempos : List ℕ) where
  -- from where it stands, the walk for a beat answers as the whole walk does
  abbrev pub Answers : Float → Stand → Type 0
  Answers beat w =
      0 < length nums
      → going_on beat (tempo_points (drop w.next nums) (drop w.next dens) (drop w.next tempos)) w ≡ seconds_at_beat (tempo_points nums dens tempos) beat

  -- for a beat, and for each that is not before it
  pub record Serves (beat : Float) (w : Stand) : Type 0 where
    pub own : Answers beat w
    pub later : (further : Float) → T (le beat further) → Answers further w

  -- for every beat, as the beginning does
  abbrev pub ServesAll : Stand → Type 0
  ServesAll w = (beat : Float) → Serves beat w

  -- the walk was taken to its own beat, which lies in the stretch of one tempo where it stands
  pub record Stopped (w : Stand) : Type 0 where
    pub serves : Serves w.beat w
    pub seconds : 0 < length nums → elapsed w.secs w.from w.beat w.tempo ≡ seconds_at_beat (tempo_points nums dens tempos) w.beat
