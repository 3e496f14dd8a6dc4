-- What is promised of a clock that goes from call to call: its words afterwards are read as the transport that the call hands back, and as the old one
-- where it refuses, so a sound clock stays sound. And demand 3 over the words of the exported call: a run may be cut into blocks. proofs/Carrying.antt and
-- proofs/Blocks.antt prove it.
use Rattle.std.specs.Prelude.{◌≡◌, Bool, true, false, ◌&&◌, ◌||◌, List, [], ◌∷◌, ◌++◌, map, ℕ, ◌/◌, ◌%◌, eqb, length}
use Rattle.numbers.specs.Answers.{accepted, number, given}
use Rattle.transport.specs.Transports.{sound}
use Rattle.transport.specs.Changes.{Handed}
use Rattle.transport.specs.Promise.{Reaches}
use Rattle.lines.specs.Lines.{lines_answer}
use Rattle.cues.specs.Sounding.{Cue, cues, later}
use Rattle.cues.specs.CueCall.{Said}
use Rattle.cues.specs.Promise.{Block, pairs_of, frames_in, all_room}
use Rattle.clock_words.specs.Clocks.{clock_of}
use Rattle.stand.specs.Calls.{advanced_by, cued, cues_after}
use Rattle.stand.specs.Words.{moves_flags, said_flags, said_count, clock_after}

-- ---- from call to call

pub record Carries (clock : List ℕ) : Type 0 where
  pub advances : (frames : ℕ) → clock_of (clock_after clock (advanced_by clock frames)) ≡ (advanced_by clock frames).transport
  pub cues : (lines : List ℕ) (frames : ℕ) (cues : List ℕ) → clock_of (clock_after clock (cued clock lines frames cues)) ≡ (cued clock lines frames cues).transport

-- of any eleven words
abbrev pub CarriesOn : Type 0
CarriesOn = (clock : List ℕ) → length clock ≡ 11 → Carries clock

-- a sound clock stays sound, whether a call is accepted or refused
pub record StaysSound (clock : List ℕ) : Type 0 where
  pub advances : (frames : ℕ) → sound (clock_of (clock_after clock (advanced_by clock frames))) ≡ true
  pub cues : (lines : List ℕ) (frames : ℕ) (cues : List ℕ) → sound (clock_of (clock_after clock (cued clock lines frames cues))) ≡ true

abbrev pub ClocksStaySound : Type 0
ClocksStaySound = (clock : List ℕ) → length clock ≡ 11 → sound (clock_of clock) ≡ true → StaysSound clock

-- ---- one call of pulleybale_cues

-- its frames and its output, and what the words hold that are lent for the count and the report
pub record Call : Type 0 where
  pub block : Block
  pub count : ℕ
  pub report : ℕ

abbrev pub blocks_of : List Call → List Block
blocks_of calls = map (λ (call : Call). call.block) calls

-- the report word: its lowest bit, and the one above
abbrev pub says_wrapped : ℕ → Bool
says_wrapped report = eqb (report % 2) 1

abbrev pub says_finished : ℕ → Bool
says_finished report = eqb (report / 2 % 2) 1

-- with one list of lines
module _ (lines : List ℕ) where
  abbrev pub handed_to : List ℕ → Call → Handed Said
  handed_to clock call = cued clock lines call.block.frames call.block.out

  -- the number that the call answers, and the words that it leaves, as src/lib.rt ensures them
  abbrev pub number_to : List ℕ → Call → ℕ
  number_to clock call = number (handed_to clock call).answer

  abbrev pub clock_then : List ℕ → Call → List ℕ
  clock_then clock call = clock_after clock (handed_to clock call)

  abbrev pub count_then : List ℕ → Call → ℕ
  count_then clock call = given said_count (handed_to clock call).answer call.count

  abbrev pub report_then : List ℕ → Call → ℕ
  report_then clock call = given said_flags (handed_to clock call).answer call.report

  -- the cues in its output: as many pairs of words as the count says
  abbrev pub cues_then : List ℕ → Call → List Cue
  cues_then clock call = pairs_of (count_then clock call) (cues_after clock lines call.block.frames call.block.out)

  -- ---- one call after the other, each on the clock's words that the call before left

  -- every call answers 0
  abbrev pub all_zero : List ℕ → List Call → Bool
  all_zero clock [] = true
  all_zero clock (call ∷ rest) = eqb (number_to clock call) 0 && all_zero (clock_then clock call) rest

  -- the cues joined, with times from the run's beginning
  abbrev pub cues_joined : List ℕ → List Call → List Cue
  cues_joined clock [] = []
  cues_joined clock (call ∷ rest) = cues_then clock call ++ map (later call.block.frames) (cues_joined (clock_then clock call) rest)

  abbrev pub last_clock : List ℕ → List Call → List ℕ
  last_clock clock [] = clock
  last_clock clock (call ∷ rest) = last_clock (clock_then clock call) rest

  abbrev pub some_wrapped : List ℕ → List Call → Bool
  some_wrapped clock [] = false
  some_wrapped clock (call ∷ rest) = says_wrapped (report_then clock call) || some_wrapped (clock_then clock call) rest

  abbrev pub some_finished : List ℕ → List Call → Bool
  some_finished clock [] = false
  some_finished clock (call ∷ rest) = says_finished (report_then clock call) || some_finished (clock_then clock call) rest

-- ---- the blocks, and the run

-- the blocks' cues joined are the run's, which are the bar lines sounded in playing order (`exactly`, `in_order` of cues); the clock's words at the end are
-- those that one call of pulleybale_advance by all the frames leaves; and some block's report says that it wrapped, or finished, just when that call's does
pub record RunCalled (lines clock : List ℕ) (calls : List Call) : Type 0 where
  pub run_cues : cues_joined lines clock calls ≡ cues lines (clock_of clock) (frames_in (blocks_of calls))
  pub run_clock : last_clock lines clock calls ≡ clock_after clock (advanced_by clock (frames_in (blocks_of calls)))
  pub run_wrap : (report : ℕ) → some_wrapped lines clock calls ≡ says_wrapped (given moves_flags (advanced_by clock (frames_in (blocks_of calls))).answer report)
  pub run_finish : (report : ℕ) → some_finished lines clock calls ≡ says_finished (given moves_flags (advanced_by clock (frames_in (blocks_of calls))).answer report)

-- ---- the whole, and its blocks

-- the whole's cues are the run's, and they are the blocks' joined; the clock's words at the end are the same; and the whole's report says that it wrapped, or
-- finished, just when some block's report does
pub record SameAsCalls (lines clock : List ℕ) (whole : Call) (calls : List Call) : Type 0 where
  pub sounded_cues : cues_then lines clock whole ≡ cues lines (clock_of clock) whole.block.frames
  pub same_cues : cues_then lines clock whole ≡ cues_joined lines clock calls
  pub same_clock : clock_then lines clock whole ≡ last_clock lines clock calls
  pub same_wrap : says_wrapped (report_then lines clock whole) ≡ some_wrapped lines clock calls
  pub same_finish : says_finished (report_then lines clock whole) ≡ some_finished lines clock calls

-- of any eleven words, whatever the words are that are lent
pub record Cuts (clock : List ℕ) : Type 0 where
  -- for one or more blocks that do not carry the position past 2 ^ 64 - 1, where every block answers 0 (no block is no call, and an advance of 0 frames may
  -- wrap or finish)
  pub joining : (lines : List ℕ) (first : Call) (rest : List Call)
      → Reaches (clock_of clock) (frames_in (blocks_of (first ∷ rest)))
      → all_zero lines clock (first ∷ rest) ≡ true
      → RunCalled lines clock (first ∷ rest)
  -- for one or more blocks, where the whole and every block answer 0
  pub by_blocks : (lines : List ℕ) (whole first : Call) (rest : List Call)
      → whole.block.frames ≡ frames_in (blocks_of (first ∷ rest))
      → number_to lines clock whole ≡ 0
      → all_zero lines clock (first ∷ rest) ≡ true
      → SameAsCalls lines clock whole (first ∷ rest)
  -- of a sound clock, with lines that are not refused, and a run in reach: every call answers 0 just where every output has room for the cues of its own block
  pub accepting : (lines : List ℕ) (calls : List Call)
      → sound (clock_of clock) ≡ true
      → lines_answer lines ≡ accepted tt
      → Reaches (clock_of clock) (frames_in (blocks_of calls))
      → all_zero lines clock calls ≡ all_room lines (clock_of clock) (blocks_of calls)

abbrev pub CutsIntoBlocks : Type 0
CutsIntoBlocks = (clock : List ℕ) → length clock ≡ 11 → Cuts clock
