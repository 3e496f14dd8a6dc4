-- What a cue call hands back, read: the transport as it is, and the answer in the numbers of document 01 (12 unsound, 4 too long, 11 lines descend, 10 out of reach, 8 no room).
use Rattle.std.specs.Prelude.{Result, Ok, Err}
use Rattle.numbers.specs.Answers.{Answer, accepted, refused}
use Rattle.numbers.specs.declared.refusal.Refusal.{Refusal}
use Rattle.numbers.specs.Refusals.{number_of, facts_of}
use Rattle.transport.specs.declared.Handed as H
use Rattle.transport.specs.Changes.{Handed}
use Rattle.cues.specs.declared.Cued.{Cued}
use Rattle.cues.specs.CueCall.{Said}

abbrev pub read_report : Result Cued Refusal → Answer Said
read_report (Ok cued) = accepted (record { wrapped = cued.wrapped; finished = cued.finished; count = cued.count })
read_report (Err why) = refused (number_of why) (facts_of why)

abbrev pub read_cues : H.Handed Cued → Handed Said
read_cues r = record { transport = r.transport; answer = read_report r.answer }
