-- What the words of a question are as a pickup, a transport and maps. A word past the question's end counts as 0.
use Rattle.std.specs.Prelude.{ℕ, ◌+◌, Bool, cond, ◌&&◌, List, leb, eqb, length, get_or, Option, Some, None}
use Rattle.std.specs.Float.{binary32}
use Rattle.std.specs.Float.Ieee.{of_bits}
use Rattle.asking.specs.Fields.{u64_at, beat_at}
use Rattle.asking.specs.Lists.{past_of, past_words, past_longs}
use Rattle.beats.specs.declared.Beat.{Beat}
use Rattle.transport.specs.Words.{state_of, loop_of}
use Rattle.transport.specs.declared.LoopRange.{LoopRange}
use Rattle.transport.specs.declared.Transport.{Transport}

-- a flag is 0 or 1
abbrev pub flag_at : List ℕ → ℕ → Bool
flag_at q at = leb (get_or q at 0) 1

-- a flag for absent or present, then a Beat
abbrev pub pickup_at : List ℕ → ℕ → Option Beat
pickup_at q at = cond (eqb (get_or q at 0) 0) None (Some (beat_at q (past_of (length q) at 1)))

-- a flag for off or on, then the start and the end
abbrev pub loop_at : List ℕ → ℕ → Option LoopRange
loop_at q at = loop_of (get_or q at 0) (u64_at q (at + 1)) (u64_at q (at + 3))

-- whether the first 17 words are a transport: the state is at most 2, and the loop's and the pickup's flag at most 1
abbrev pub transport_words : List ℕ → Bool
transport_words q = leb (get_or q 7 0) 2 && (flag_at q 8 && flag_at q 13)

-- the transport of the first 17 words: rate, bpm bits, beats per bar, length, position, state, loop, pickup
abbrev pub transport_of : List ℕ → Transport
transport_of q =
    record { sample_rate = get_or q 0 0; bpm = of_bits binary32 (get_or q 1 0); beats_per_bar = get_or q 2 0; length = u64_at q 3; position = u64_at q 5; state = state_of (get_or q 7 0); looping = loop_at q 8; pickup = pickup_at q 13 }

-- past the flat words of a meter map, at most three for each of 65,537 points
abbrev pub past_meter : List ℕ → ℕ → ℕ
past_meter q at = past_words q at 196611

-- past the three lists of a tempo map, of at most 65,537 elements each
abbrev pub past_tempo : List ℕ → ℕ → ℕ
past_tempo q at = past_words q (past_words q (past_longs q at) 65537) 65537
