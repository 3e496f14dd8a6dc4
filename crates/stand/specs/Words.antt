-- What the exported calls write. The number that each answers is that of its answer: 0, or the refusal's (`number`), and a lent word
-- afterwards is what an accepted answer gives it; a refusal leaves it as it was (`given`).
use Rattle.std.specs.Prelude.{ℕ, ◌+◌, Bool, cond, List}
use Rattle.numbers.specs.Answers.{given}
use Rattle.transport.specs.Changes.{Handed}
use Rattle.transport.specs.Advances.{Moves}
use Rattle.cues.specs.CueCall.{Said}
use Rattle.clock_words.specs.Clocks.{placed}

-- 1 where it wrapped, and 2 where it finished
unfoldable pub flags : Bool → Bool → ℕ
flags wrapped finished = cond wrapped 1 0 + cond finished 2 0

abbrev pub moves_flags : Moves → ℕ
moves_flags moves = flags moves.0 moves.1

abbrev pub said_flags : Said → ℕ
said_flags said = flags said.wrapped said.finished

abbrev pub said_count : Said → ℕ
said_count said = said.count

-- the clock afterwards stands where the transport does that is handed back; a refusal leaves it as it was
abbrev pub clock_after : {A : Type 0} → List ℕ → Handed A → List ℕ
clock_after clock handed = given (λ a. placed clock handed.transport) handed.answer clock
