-- Demand 3: a run may be cut into blocks. Each block is one cue call, on the transport that the call before handed back; all is stated
-- over what the calls answer and the words that they leave. proofs/Blocks.antt, proofs/Exactly.antt and proofs/Accepting.antt prove it.
use Rattle.std.specs.Prelude.{◌≡◌, Bool, true, false, ◌&&◌, ◌||◌, List, [], ◌∷◌, ◌++◌, map, ℕ, zero, suc, ◌+◌}
use Rattle.numbers.specs.Answers.{Answer, accepted, refused, is_accepted}
use Rattle.transport.specs.declared.Transport.{Transport}
use Rattle.transport.specs.Transports.{sound}
use Rattle.transport.specs.Changes.{Handed}
use Rattle.transport.specs.Advances.{advanced}
use Rattle.transport.specs.Promise.{Reaches}
use Rattle.lines.specs.Lines.{lines_answer}
use Rattle.cues.specs.Sounding.{Cue, cues, later}
use Rattle.cues.specs.CueCall.{room_for, Said, cue_answer, cue_after}
use Rattle.cues.specs.Exactly.{Exactly, Ordered}

-- ---- one call

-- a block: its frames, and the output that is lent for it
pub record Block : Type 0 where
  pub frames : ℕ
  pub out : List ℕ

-- a refused call says nothing
abbrev pub said : Answer Said → Said
said (accepted s) = s
said (refused number facts) = record { wrapped = false; finished = false; count = 0 }

-- the first so many pairs of words
abbrev pub pairs_of : ℕ → List ℕ → List Cue
pairs_of zero words = []
pairs_of (suc count) [] = []
pairs_of (suc count) (time ∷ []) = []
pairs_of (suc count) (time ∷ place ∷ rest) = (time, place) ∷ pairs_of count rest

module _ (lines : List ℕ) where
  abbrev pub answer_to : Transport → Block → Handed Said
  answer_to t block = cue_answer t lines block.frames block.out

  -- what the call says, and the transport that it hands back
  abbrev pub said_to : Transport → Block → Said
  said_to t block = said (answer_to t block).answer

  abbrev pub next : Transport → Block → Transport
  next t block = (answer_to t block).transport

  -- the cues that it wrote: as many as it says
  abbrev pub cues_in : Transport → Block → List Cue
  cues_in t block = pairs_of (said_to t block).count (cue_after t lines block.frames block.out)

  -- ---- one call after the other

  abbrev pub all_accepted : Transport → List Block → Bool
  all_accepted t [] = true
  all_accepted t (block ∷ rest) = is_accepted (answer_to t block).answer && all_accepted (next t block) rest

  -- the cues joined, with times from the run's beginning
  abbrev pub joined_cues : Transport → List Block → List Cue
  joined_cues t [] = []
  joined_cues t (block ∷ rest) = cues_in t block ++ map (later block.frames) (joined_cues (next t block) rest)

  abbrev pub last_transport : Transport → List Block → Transport
  last_transport t [] = t
  last_transport t (block ∷ rest) = last_transport (next t block) rest

  abbrev pub some_wraps : Transport → List Block → Bool
  some_wraps t [] = false
  some_wraps t (block ∷ rest) = (said_to t block).wrapped || some_wraps (next t block) rest

  abbrev pub some_finishes : Transport → List Block → Bool
  some_finishes t [] = false
  some_finishes t (block ∷ rest) = (said_to t block).finished || some_finishes (next t block) rest

-- ---- the blocks, and the run

abbrev pub frames_in : List Block → ℕ
frames_in [] = 0
frames_in (block ∷ rest) = block.frames + frames_in rest

-- the blocks' cues joined are the run's, which are the bar lines sounded in playing order (`exactly`, `in_order` below); the transport at the end is that of
-- one advance by all the frames; and some block reports a wrap, or a finish, just when that advance does
pub record RunJoined (lines : List ℕ) (t : Transport) (blocks : List Block) : Type 0 where
  pub run_cues : joined_cues lines t blocks ≡ cues lines t (frames_in blocks)
  pub run_end : last_transport lines t blocks ≡ (advanced t (frames_in blocks)).transport
  pub run_wrap : some_wraps lines t blocks ≡ (advanced t (frames_in blocks)).moves.wrapped
  pub run_finish : some_finishes lines t blocks ≡ (advanced t (frames_in blocks)).moves.finished

-- for one or more blocks that do not carry the position past 2 ^ 64 - 1, where every block is accepted. (No block is no call, and an advance of 0 frames may
-- wrap or finish.) Nothing is asked of the transport: a first block that is accepted shows that it is sound
abbrev pub Joining : Type 0
Joining = (lines : List ℕ) (t : Transport) (first : Block) (rest : List Block)
    → Reaches t (frames_in (first ∷ rest))
    → all_accepted lines t (first ∷ rest) ≡ true
    → RunJoined lines t (first ∷ rest)

-- ---- the whole, and its blocks

-- the whole's cues are the run's, and they are the blocks' joined; the end transport is the same; and the whole reports a wrap, or a finish, just when some
-- block does
pub record SameAsBlocks (lines : List ℕ) (t : Transport) (whole : Block) (blocks : List Block) : Type 0 where
  pub sounded_cues : cues_in lines t whole ≡ cues lines t whole.frames
  pub same_cues : cues_in lines t whole ≡ joined_cues lines t blocks
  pub same_end : next lines t whole ≡ last_transport lines t blocks
  pub same_wrap : (said_to lines t whole).wrapped ≡ some_wraps lines t blocks
  pub same_finish : (said_to lines t whole).finished ≡ some_finishes lines t blocks

-- for one or more blocks, where the whole and every block are accepted: a whole that is accepted shows that the transport is sound and the run in reach
abbrev pub ByBlocks : Type 0
ByBlocks = (lines : List ℕ) (t : Transport) (whole first : Block) (rest : List Block)
    → whole.frames ≡ frames_in (first ∷ rest)
    → is_accepted (answer_to lines t whole).answer ≡ true
    → all_accepted lines t (first ∷ rest) ≡ true
    → SameAsBlocks lines t whole (first ∷ rest)

-- ---- when the calls are accepted

-- every output has room for the cues of its own block
abbrev pub all_room : List ℕ → Transport → List Block → Bool
all_room lines t [] = true
all_room lines t (block ∷ rest) = room_for (cues lines t block.frames) block.out && all_room lines (advanced t block.frames).transport rest

-- of a sound transport, with lines that are not refused and a run in reach, no call is refused just where there is this room
abbrev pub Accepting : Type 0
Accepting = (lines : List ℕ) (t : Transport) (blocks : List Block)
    → sound t ≡ true
    → lines_answer lines ≡ accepted tt
    → Reaches t (frames_in blocks)
    → all_accepted lines t blocks ≡ all_room lines t blocks

-- ---- from call to call

-- a sound transport stays sound, whether the call is accepted or refused
abbrev pub StaysSound : Type 0
StaysSound = (lines : List ℕ) (t : Transport) (block : Block) → sound t ≡ true → sound (next lines t block) ≡ true

-- ---- the promise

pub record Promised : Type 0 where
  pub joining : Joining
  pub by_blocks : ByBlocks
  pub exactly : Exactly
  pub in_order : Ordered
  pub accepting : Accepting
  pub stays_sound : StaysSound
