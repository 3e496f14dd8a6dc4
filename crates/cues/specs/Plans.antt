-- A playing run as stretches of frames that sound one after the other, and the words of their cues.
use Rattle.std.specs.Prelude.{◌≡◌, true, cond, ◌&&◌, List, [], ◌∷◌, ◌++◌, map, ℕ, zero, suc, ◌+◌, ◌-◌, ◌*◌, ◌/◌, ◌%◌, ◌≤◌, ◌<◌, leb, ltb, length, get_or, Option, Some, None}
use Rattle.transport.specs.declared.Transport.{Transport}
use Rattle.transport.specs.Transports.{sound, playing}
use Rattle.numbers.specs.Answers.{over}
use Rattle.lines.specs.Lines.{ascends}
use Rattle.cues.specs.declared.plan.Plan.{Plan}
use Rattle.cues.specs.Sounding.{Cue, cue_if, cues, later}
use Rattle.cues.specs.CueCall.{room_for, flat}

-- ---- stretches

-- the cues of so many frames that sound one after the other from a frame on; the first line has this place
abbrev pub stretch : ℕ → ℕ → ℕ → List ℕ → List Cue
stretch from frames place [] = []
stretch from frames place (line ∷ rest) = cue_if (leb from line && ltb line (from + frames)) (line - from, place) ++ stretch from frames (suc place) rest

-- so many laps of `lap` frames from start, and then `last` frames from start
abbrev pub lap_cues : ℕ → ℕ → ℕ → List ℕ → ℕ → List Cue
lap_cues start lap last lines zero = stretch start last 0 lines
lap_cues start lap last lines (suc laps) = stretch start lap 0 lines ++ map (later lap) (lap_cues start lap last lines laps)

-- ---- the plan of a run

abbrev pub plan_cues : List ℕ → Plan → List Cue
plan_cues lines p = stretch p.from p.first 0 lines ++ map (later p.first) (lap_cues p.start p.lap p.last lines p.laps)

-- one stretch alone
abbrev pub straight_plan : ℕ → ℕ → Plan
straight_plan from frames = record { from = from; first = frames; start = 0; lap = 0; laps = 0; last = 0 }

-- so many frames, more than are left from a frame to the loop's end
abbrev pub lap_plan : ℕ → ℕ → ℕ → ℕ → Plan
lap_plan start end from frames =
    record {
      from = from;
      first = end - from;
      start = start;
      lap = end - start;
      laps = (frames - (end - from)) / (end - start);
      last = (frames - (end - from)) % (end - start);
    }

-- from a frame before the loop's end
abbrev pub loop_plan : ℕ → ℕ → ℕ → ℕ → Plan
loop_plan start end from frames = cond (leb frames (end - from)) (straight_plan from frames) (lap_plan start end from frames)

-- its frames and its times are words
pub record Fitting (p : Plan) : Type 0 where
  pub from_fits : p.from + p.first ≤ 18446744073709551615
  pub lap_fits : p.start + p.lap ≤ 18446744073709551615
  pub last_short : p.last ≤ p.lap
  pub run_fits : p.first + (p.laps * p.lap + p.last) ≤ 18446744073709551615

-- a sound transport that plays, and a run in reach
pub record Plays (t : Transport) (frames : ℕ) : Type 0 where
  pub fit : sound t ≡ true
  pub plays : playing t.state ≡ true
  pub reach : t.position + frames ≤ 18446744073709551615

-- the cues of the run are the plan's, whatever the ascending lines
pub record Planned (t : Transport) (frames : ℕ) (p : Plan) : Type 0 where
  pub fits : Fitting p
  pub same : (lines : List ℕ) → ascends lines ≡ true → cues lines t frames ≡ plan_cues lines p

-- ---- counting

abbrev pub counted_to : ℕ → ℕ → Option ℕ
counted_to room count = cond (leb count room) (Some count) None

-- ---- writing

-- cues written from the start of the output; nothing is written where there is no room
abbrev pub written : List Cue → List ℕ → List ℕ
written cues out = cond (room_for cues out) (over (flat cues) out) out

-- the words of a part of the lines, whose first line has this place, where the frame `from` sounds at this time
abbrev pub part_words : ℕ → ℕ → ℕ → List ℕ → List ℕ
part_words time from place [] = []
part_words time from place (line ∷ rest) = (time + (line - from)) ∷ place ∷ part_words time from (suc place) rest

-- the same once a lap
abbrev pub lap_words : ℕ → ℕ → ℕ → List ℕ → ℕ → ℕ → List ℕ
lap_words lap start place part time zero = []
lap_words lap start place part time (suc laps) = part_words time start place part ++ lap_words lap start place part (time + lap) laps

-- every line is one of so many frames from a frame on
pub record Within (from frames : ℕ) (part : List ℕ) : Type 0 where
  pub starts : (i : ℕ) → i < length part → from ≤ get_or part i 0
  pub ends : (i : ℕ) → i < length part → get_or part i 0 < from + frames

-- what the writer of a part asks: its times and its places are words (a place and a number of lines are at most 65,536 each, and so 131072 together), and
-- there is room
pub record Writes (part out : List ℕ) (at from place time : ℕ) : Type 0 where
  pub starts : (i : ℕ) → i < length part → from ≤ get_or part i 0
  pub times : (i : ℕ) → i < length part → time + (get_or part i 0 - from) ≤ 18446744073709551615
  pub places : place + length part ≤ 131072
  pub room : at + length (part_words time from place part) ≤ length out

-- and what the writer of the laps asks
pub record WritesLaps (part out : List ℕ) (at start lap place time laps : ℕ) : Type 0 where
  pub lines : Within start lap part
  pub places : place + length part ≤ 131072
  pub times : time + laps * lap ≤ 18446744073709551615
  pub room : at + length (lap_words lap start place part time laps) ≤ length out
