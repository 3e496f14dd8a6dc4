-- What a call hands back, read: the transport as it is, and the answer in the numbers of document 01 (`read` of numbers).
use Rattle.std.specs.Prelude.{Result, Ok, Err}
use Rattle.numbers.specs.Answers.{Answer, accepted, refused}
use Rattle.numbers.specs.declared.refusal.Refusal.{Refusal}
use Rattle.numbers.specs.Refusals.{number_of, facts_of, read}
use Rattle.transport.specs.declared.Transport.{Transport}
use Rattle.transport.specs.declared.Moves as M
use Rattle.transport.specs.declared.Handed as H
use Rattle.transport.specs.Changes.{Handed}
use Rattle.transport.specs.Advances.{Moves}

abbrev pub read_handed : {A : Type 0} → H.Handed A → Handed A
read_handed r = record { transport = r.transport; answer = read r.answer }

abbrev pub read_moves : Result M.Moves Refusal → Answer Moves
read_moves (Ok moves) = accepted (moves.wrapped, moves.finished)
read_moves (Err why) = refused (number_of why) (facts_of why)

abbrev pub read_advanced : H.Handed M.Moves → Handed Moves
read_advanced r = record { transport = r.transport; answer = read_moves r.answer }

-- ---- two answers as values

abbrev pub changed_to : Transport → H.Handed Unit
changed_to t = record { transport = t; answer = Ok tt }

abbrev pub refused_by : {A : Type 0} → Transport → Refusal → H.Handed A
refused_by t why = record { transport = t; answer = Err why }
