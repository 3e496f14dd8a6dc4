-- The cues of a run: the bar lines that sound in it, frame by frame.
use Rattle.std.specs.Prelude.{Bool, true, false, cond, List, [], ◌∷◌, ◌++◌, ℕ, zero, suc, ◌+◌, eqb}
use Rattle.std.proofs.Math.Option.{Option, none, some}
use Rattle.transport.specs.declared.playhead.Run.{Run}
use Rattle.transport.specs.declared.Transport.{Transport}
use Rattle.transport.specs.Transports.{playing}
use Rattle.transport.specs.Advances.{advanced}

-- ---- the frame sounded

-- where a run stands; none once it finished
abbrev pub stands_at : Run → Option ℕ
stands_at run = cond run.moves.finished none (some run.transport.position)

-- the frame sounded at a time is where an advance by that time from the beginning would stand; none at all unless the transport plays
abbrev pub sounded_at : Transport → ℕ → Option ℕ
sounded_at t time = cond (playing t.state) (stands_at (advanced t time)) none

-- ---- the cues

-- the time, and the place of the line
abbrev pub Cue : Type 0
Cue = ℕ × ℕ

abbrev pub cue_if : Bool → Cue → List Cue
cue_if true cue = cue ∷ []
cue_if false cue = []

-- each line equal to the frame; the first line has this place
abbrev pub lines_equal : ℕ → ℕ → ℕ → List ℕ → List Cue
lines_equal time frame place [] = []
lines_equal time frame place (line ∷ rest) = cue_if (eqb line frame) (time, place) ++ lines_equal time frame (suc place) rest

-- places count from 0
abbrev pub cues_at : List ℕ → ℕ → Option ℕ → List Cue
cues_at lines time none = []
cues_at lines time (some frame) = lines_equal time frame 0 lines

-- at the times from 0 to frames - 1
abbrev pub cues : List ℕ → Transport → ℕ → List Cue
cues lines t zero = []
cues lines t (suc time) = cues lines t time ++ cues_at lines time (sounded_at t time)

-- a cue so much later
abbrev pub later : ℕ → Cue → Cue
later time cue = (time + cue.0, cue.1)
