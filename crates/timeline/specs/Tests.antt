-- What is tested before a walk: 12 of the transport, then 3, 4 and 1 of the lists, each number for all lists before the next.
use Rattle.std.specs.Prelude.{ℕ, leb, cond, List, ℤ, Result, Ok, Err}
use Rattle.numbers.specs.Answers.{Answer}
use Rattle.numbers.specs.declared.refusal.Refusal.{Refusal}
use Rattle.numbers.specs.declared.refusal.Refusal.TheVariants.{Unsound, Uneven, TooLong}
use Rattle.meter.specs.Answers.{by_words}
use Rattle.tempo.specs.Answers.{map_test, if_walkable}
use Rattle.transport.specs.declared.Handed.{Handed}
use Rattle.transport.specs.declared.Transport.{Transport}
use Rattle.transport.specs.Transports.{sound}
use Rattle.transport.specs.Changes.{if_transport}
use Rattle.transport.specs.Readings.{changed_to, refused_by}

-- the flat words of a meter map: 3 where they are not three a point, 4 where there are over 65,536 points
abbrev pub words_test : List ℕ → Result Unit Refusal
words_test words = by_words words (Ok tt) (Err TooLong) (Err Uneven)

-- how early a refusal comes: 3, then 4, then any other (lists are refused by no other than 1)
abbrev pub rank : Refusal → ℕ
rank Uneven = 0
rank TooLong = 1
rank _ = 2

-- of two findings the one that comes first: 3, then 4, then 1
abbrev pub worse : Result Unit Refusal → Result Unit Refusal → Result Unit Refusal
worse (Ok u) b = b
worse (Err why) (Ok u) = Err why
worse (Err why) (Err other) = Err (cond (leb (rank why) (rank other)) why other)

-- both maps
unfoldable pub maps_test : List ℕ → List ℤ → List ℕ → List ℕ → Result Unit Refusal
maps_test words nums dens tempos = worse (words_test words) (map_test nums dens tempos)

-- ---- as answers

-- 12, then what was found
unfoldable pub if_tested : {A : Type 0} → Transport → Result Unit Refusal → Answer A → Answer A
if_tested t finding answer = if_transport t (if_walkable finding answer)

-- ---- as the code has it

unfoldable pub test_of : Transport → Result Unit Refusal → Result Unit Refusal
test_of t finding = cond (sound t) finding (Err Unsound)

-- a test that hands on what it tested, as the test alone
abbrev pub told : {A : Type 0} → Result A Refusal → Result Unit Refusal
told (Ok a) = Ok tt
told (Err why) = Err why

-- the new transport, and where there is none the old one
abbrev pub handed_by : Transport → Result Transport Refusal → Handed Unit
handed_by t (Ok new) = changed_to new
handed_by t (Err why) = refused_by t why
