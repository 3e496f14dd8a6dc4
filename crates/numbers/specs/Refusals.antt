-- Each refusal in the numbers of document 01, and a result that may refuse, read as an answer.
use Rattle.std.specs.Prelude.{ℕ, List, [], ◌∷◌, Result, Ok, Err}
use Rattle.numbers.specs.Answers.{Answer, accepted, refused}
use Rattle.numbers.specs.declared.refusal.Part.{Part}
use Rattle.numbers.specs.declared.refusal.Part.TheVariants.{Bars, Step, Len, Beat}
use Rattle.numbers.specs.declared.refusal.Refusal.{Refusal}
use Rattle.numbers.specs.declared.refusal.Refusal.TheVariants.{NotBeat, Overflow, Uneven, TooLong, EmptyMap, BadNumbers, OffGrid, NoRoom, BadLoop, OutOfReach, Descend, Unsound, BadFile}

-- what: 0 the bars, 1 a note's step, 2 its len, 3 a beat
abbrev pub part_number : Part → ℕ
part_number Bars = 0
part_number Step = 1
part_number Len = 2
part_number Beat = 3

abbrev pub number_of : Refusal → ℕ
number_of NotBeat = 1
number_of Overflow = 2
number_of Uneven = 3
number_of TooLong = 4
number_of EmptyMap = 5
number_of BadNumbers = 6
number_of (OffGrid miss) = 7
number_of NoRoom = 8
number_of BadLoop = 9
number_of OutOfReach = 10
number_of Descend = 11
number_of Unsound = 12
number_of BadFile = 13

-- the facts that go with it: what, place, value for 7, and none else
abbrev pub facts_of : Refusal → List ℕ
facts_of (OffGrid miss) = part_number miss.part ∷ miss.place ∷ miss.value ∷ []
facts_of NotBeat = []
facts_of Overflow = []
facts_of Uneven = []
facts_of TooLong = []
facts_of EmptyMap = []
facts_of BadNumbers = []
facts_of NoRoom = []
facts_of BadLoop = []
facts_of OutOfReach = []
facts_of Descend = []
facts_of Unsound = []
facts_of BadFile = []

-- accepted, or refused by the number and its facts
abbrev pub read : {A : Type 0} → Result A Refusal → Answer A
read (Ok a) = accepted a
read (Err why) = refused (number_of why) (facts_of why)
