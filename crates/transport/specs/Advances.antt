-- `advance`: where the playhead stands after a run of frames.
use Rattle.std.specs.Prelude.{Bool, true, false, cond, [], ℕ, min, ◌+◌, ◌-◌, ◌%◌, ◌^◌, leb, Option, Some, None}
use Rattle.numbers.specs.Answers.{accepted, refused}
use Rattle.transport.specs.declared.PlayState.TheVariants.{Stopped, Playing}
use Rattle.transport.specs.declared.LoopRange.{LoopRange}
use Rattle.transport.specs.declared.playhead.Stands.{Stands}
use Rattle.transport.specs.declared.playhead.Stands.TheVariants.{At, Wrapped, Ended}
use Rattle.transport.specs.declared.playhead.Run.{Run}
use Rattle.transport.specs.declared.Transport.{Transport}
use Rattle.transport.specs.Transports.{sound, playing, moved_to}
use Rattle.transport.specs.Changes.{Handed}

-- the frame that so many frames carry a position to; no frame is above 2 ^ 64 - 1
abbrev pub reached : ℕ → ℕ → ℕ
reached position frames = min (position + frames) (2 ^ 64 - 1)

-- at the length or past it the playhead ends
abbrev pub unlooped : ℕ → ℕ → Stands
unlooped length frame = cond (leb length frame) Ended (At frame)

-- where a loop takes a frame at its end or past it
abbrev pub fold : ℕ → ℕ → ℕ → ℕ
fold start end frame = start + (frame - start) % (end - start)

-- with a loop, at its end or past it, the playhead wraps; the length is looked at only otherwise
abbrev pub standing : ℕ → Option LoopRange → ℕ → Stands
standing length None frame = unlooped length frame
standing length (Some range) frame = cond (leb range.end frame) (Wrapped (fold range.start range.end frame)) (unlooped length frame)

-- a playhead that ends stops at the length
abbrev pub came : Transport → Stands → Run
came t (At frame) = record { transport = moved_to t frame Playing; moves = record { wrapped = false; finished = false } }
came t (Wrapped frame) = record { transport = moved_to t frame Playing; moves = record { wrapped = true; finished = false } }
came t Ended = record { transport = moved_to t t.length Stopped; moves = record { wrapped = false; finished = true } }

abbrev pub ran : Transport → ℕ → Run
ran t frames = came t (standing t.length t.looping (reached t.position frames))

-- a transport that does not play stays where it is
abbrev pub stayed : Transport → Run
stayed t = record { transport = t; moves = record { wrapped = false; finished = false } }

unfoldable pub advanced : Transport → ℕ → Run
advanced t frames = cond (playing t.state) (ran t frames) (stayed t)

-- ---- the call

-- what an advance says: whether it wrapped, and whether it finished
abbrev pub Moves : Type 0
Moves = Bool × Bool

abbrev pub moves_of : Run → Handed Moves
moves_of run = record { transport = run.transport; answer = accepted (run.moves.wrapped, run.moves.finished) }

abbrev pub advance_answer : Transport → ℕ → Handed Moves
advance_answer t frames = cond (sound t) (moves_of (advanced t frames)) (record { transport = t; answer = refused 12 [] })
