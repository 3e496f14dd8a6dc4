-- What is promised of the transport beyond each call's own answer; proofs/Sound.antt and proofs/Composes.antt prove it.
use Rattle.std.specs.Prelude.{◌≡◌, true, ◌||◌, ℕ, ◌+◌, ◌-◌, ◌≤◌, ◌^◌, Float, Option}
use Rattle.numbers.specs.Answers.{accepted}
use Rattle.beats.specs.declared.Beat.{Beat}
use Rattle.transport.specs.declared.Transport.{Transport}
use Rattle.transport.specs.Transports.{sound, playing, constant_at, made_answer}
use Rattle.transport.specs.Changes.{Handed, play_answer, pause_answer, stop_answer, seek_answer, loop_answer, unloop_answer}
use Rattle.transport.specs.Advances.{Moves, advanced, advance_answer}

-- ---- sound transports

-- what is made is sound
pub record MadeSound (rate : ℕ) (bpm : Float) (beats : ℕ) : Type 0 where
  pub constant : sound (constant_at rate bpm beats) ≡ true
  pub with_length : (length : ℕ) (pickup : Option Beat) (t : Transport) → made_answer rate bpm beats length pickup ≡ accepted t → sound t ≡ true

-- and a sound transport stays sound
pub record StaysSound (t : Transport) : Type 0 where
  pub played : sound (play_answer t).transport ≡ true
  pub paused : sound (pause_answer t).transport ≡ true
  pub stopped : sound (stop_answer t).transport ≡ true
  pub sought : (frame : ℕ) → sound (seek_answer t frame).transport ≡ true
  pub looped : (start end : ℕ) → sound (loop_answer t start end).transport ≡ true
  pub unlooped : sound (unloop_answer t).transport ≡ true
  pub advances : (frames : ℕ) → sound (advance_answer t frames).transport ≡ true

-- ---- advance composes

-- so many frames do not carry the position past 2 ^ 64 - 1; a transport that does not play is carried nowhere
abbrev pub Reaches : Transport → ℕ → Type 0
Reaches t frames = playing t.state ≡ true → t.position + frames ≤ 2 ^ 64 - 1

-- a frames and then b frames are a + b frames: the same transport at the end, and the whole wraps, or finishes, just when one of the two does
pub record Composes (t : Transport) (a b : ℕ) : Type 0 where
  pub ends : (advanced t (a + b)).transport ≡ (advanced (advanced t a).transport b).transport
  pub wraps : (advanced t (a + b)).moves.wrapped ≡ ((advanced t a).moves.wrapped || (advanced (advanced t a).transport b).moves.wrapped)
  pub finishes : (advanced t (a + b)).moves.finished ≡ ((advanced t a).moves.finished || (advanced (advanced t a).transport b).moves.finished)

-- the call's answer, where it is accepted with these moves
abbrev pub moving : Transport → Moves → Handed Moves
moving t moves = record { transport = t; answer = accepted moves }

-- the same of the calls: neither of the two is refused, the first with the moves `one` and the second with the moves `two`
pub record CallsCompose (t : Transport) (a b : ℕ) : Type 0 where
  pub between : Transport
  pub last : Transport
  pub one : Moves
  pub two : Moves
  pub first : advance_answer t a ≡ moving between one
  pub second : advance_answer between b ≡ moving last two
  pub whole : advance_answer t (a + b) ≡ moving last (one.0 || two.0, one.1 || two.1)

-- ---- the promise

-- an advance composes as long as its frames can be counted: a sum that is cut off at 2 ^ 64 - 1 is folded by a loop to another frame in one step than in two
pub record Promised : Type 0 where
  pub made : (rate : ℕ) (bpm : Float) (beats : ℕ) → MadeSound rate bpm beats
  pub stays : (t : Transport) → sound t ≡ true → StaysSound t
  pub composes : (t : Transport) (a b : ℕ) → sound t ≡ true → Reaches t (a + b) → Composes t a b
  pub calls : (t : Transport) (a b : ℕ) → sound t ≡ true → Reaches t (a + b) → CallsCompose t a b
