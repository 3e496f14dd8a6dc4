-- Lists of a question, and what a lent output holds before a call.
use Rattle.std.specs.Prelude.{ℕ, ◌+◌, ◌*◌, ◌%◌, ◌^◌, cond, List, [], length, ℤ, nat_lt, slice_index, slice_range}
use Rattle.numbers.specs.Bits.{signed_of}
use Rattle.numbers.specs.Lists.{entries}
use Rattle.asking.specs.Fields.{u64_at}

-- an index that no question has
abbrev pub nowhere : ℕ
nowhere = 18446744073709551615

-- past the n words from an index on, in a question of so many words; nowhere where it has not all of them
abbrev pub past_of : ℕ → ℕ → ℕ → ℕ
past_of long at n = cond (nat_lt long (at + n)) nowhere (at + n)

-- past a list of words, and past a list of 64-bit numbers, whose count is at an index; nowhere where it is cut or too long
abbrev pub past_words : List ℕ → ℕ → ℕ → ℕ
past_words q at most = cond (nat_lt most (slice_index q at)) nowhere (past_of (length q) (past_of (length q) at 1) (slice_index q at))

abbrev pub past_longs : List ℕ → ℕ → ℕ
past_longs q at = cond (nat_lt 65537 (slice_index q at)) nowhere (past_of (length q) (past_of (length q) at 1) (slice_index q at * 2))

-- the words from a up to e; none where a question has not all of them
abbrev pub part_of : List ℕ → ℕ → ℕ → List ℕ
part_of q a e = cond (nat_lt (length q) e) [] (slice_range q a e)

-- the words of these lists; none where the list is cut
abbrev pub words_of : List ℕ → ℕ → List ℕ
words_of q at = part_of q (past_of (length q) at 1) (past_of (length q) (past_of (length q) at 1) (slice_index q at))

abbrev pub longs_of : List ℕ → ℕ → List ℕ
longs_of q at = part_of q (past_of (length q) at 1) (past_of (length q) (past_of (length q) at 1) (slice_index q at * 2))

-- the k-th number of a list of 64-bit numbers, by its words; and n of them
abbrev pub u64_in : List ℕ → ℕ → ℕ
u64_in list k = u64_at list (k * 2)

abbrev pub i64_in : List ℕ → ℕ → ℤ
i64_in list k = signed_of (u64_in list k)

abbrev pub u64s_of : List ℕ → ℕ → List ℕ
u64s_of list n = entries (u64_in list) 0 n

abbrev pub i64s_of : List ℕ → ℕ → List ℤ
i64s_of list n = entries (i64_in list) 0 n

-- element k of a lent output of 32-bit and of 64-bit words, before a call; and n of them
abbrev pub mark32 : ℕ → ℕ
mark32 k = (0xA5000000 + k) % 2 ^ 32

abbrev pub mark64 : ℕ → ℕ
mark64 k = 0xA5000000 + k

abbrev pub marks32 : ℕ → List ℕ
marks32 n = entries mark32 0 n

abbrev pub marks64 : ℕ → List ℕ
marks64 n = entries mark64 0 n
