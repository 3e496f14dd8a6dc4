-- The cue call. It refuses by 12, 4 and 11, and where the transport plays by 10 and 8, in this order, before the first word is written.
use Rattle.std.specs.Prelude.{Bool, cond, List, [], ◌∷◌, ℕ, ◌+◌, ◌/◌, ◌-◌, ◌^◌, leb, length}
use Rattle.numbers.specs.Answers.{Answer, accepted, refused, given, then, over}
use Rattle.transport.specs.declared.playhead.Run.{Run}
use Rattle.transport.specs.declared.Transport.{Transport}
use Rattle.transport.specs.Transports.{playing}
use Rattle.transport.specs.Changes.{Handed, if_transport}
use Rattle.transport.specs.Advances.{advanced}
use Rattle.lines.specs.Lines.{lines_answer}
use Rattle.cues.specs.Sounding.{Cue, cues}

-- ---- refusals

-- the run does not carry the position past 2 ^ 64 - 1
abbrev pub within_reach : Transport → ℕ → Bool
within_reach t frames = leb (t.position + frames) (2 ^ 64 - 1)

-- a cue is two words, and room is whole pairs
abbrev pub room_for : List Cue → List ℕ → Bool
room_for cues out = leb (length cues) (length out / 2)

-- 10, 8
abbrev pub play_test : Transport → List ℕ → ℕ → List ℕ → Answer Unit
play_test t lines frames out = cond (within_reach t frames) (cond (room_for (cues lines t frames) out) (accepted tt) (refused 8 [])) (refused 10 [])

-- 12, 4, 11, and then 10, 8 where the transport plays
abbrev pub cue_test : Transport → List ℕ → ℕ → List ℕ → Answer Unit
cue_test t lines frames out = if_transport t (then (lines_answer lines) (λ u. cond (playing t.state) (play_test t lines frames out) (accepted tt)))

-- ---- the answer, and the words afterwards

-- what an accepted call says: whether it wrapped, whether it finished, and the number of cues
pub record Said : Type 0 where
  pub wrapped : Bool
  pub finished : Bool
  pub count : ℕ

-- the state moves, and wrap and finish are reported, as by an advance
abbrev pub moved_by : Run → ℕ → Handed Said
moved_by run count = record { transport = run.transport; answer = accepted (record { wrapped = run.moves.wrapped; finished = run.moves.finished; count = count }) }

-- a refusal hands back the old transport
abbrev pub handed_by : Transport → Answer Unit → Handed Said → Handed Said
handed_by t (accepted u) handed = handed
handed_by t (refused number facts) handed = record { transport = t; answer = refused number facts }

-- where the transport does not play there are no cues and no move, as `cues` and `advanced` have it
abbrev pub cue_answer : Transport → List ℕ → ℕ → List ℕ → Handed Said
cue_answer t lines frames out = handed_by t (cue_test t lines frames out) (moved_by (advanced t frames) (length (cues lines t frames)))

abbrev pub flat : List Cue → List ℕ
flat [] = []
flat (cue ∷ rest) = cue.0 ∷ cue.1 ∷ flat rest

-- a refusal changes no word
abbrev pub cue_after : Transport → List ℕ → ℕ → List ℕ → List ℕ
cue_after t lines frames out = given (λ u. over (flat (cues lines t frames)) out) (cue_test t lines frames out) out
