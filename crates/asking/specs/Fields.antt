-- What the words of a question mean. A word past the question's end counts as 0.
use Rattle.std.specs.Prelude.{ℕ, ◌+◌, ◌*◌, List, slice_index}
use Rattle.numbers.specs.Bits.{signed_of}
use Rattle.beats.specs.declared.Beat.{Beat}

-- the 64 bits of two words, the lower one first
abbrev pub u64_at : List ℕ → ℕ → ℕ
u64_at q i = slice_index q i + 4294967296 * slice_index q (i + 1)

-- the three words of a Beat
abbrev pub beat_at : List ℕ → ℕ → Beat
beat_at q i = record { num = signed_of (u64_at q i); den = slice_index q (i + 2) }
