-- No two answers of a cue call read alike, since each can be told from its reading. So a contract through the reading has one answer (`one_reading` of numbers).
use Rattle.std.proofs.Common.{◌≡◌, Result, Ok, Err, refl, sym, ap, ◌∙◌}
use Rattle.numbers.specs.declared.refusal.Refusal.{Refusal}
use Rattle.numbers.specs.Answers.{Answer, accepted, refused}
use Rattle.numbers.specs.Refusals.{read}
use Rattle.numbers.proofs.Laws.{Apart, results_apart}
use Rattle.transport.specs.Changes.{Handed}
use Rattle.cues.specs.declared.Cued.{Cued}
use Rattle.cues.specs.CueCall.{Said}
use Rattle.cues.specs.Readings.{read_report, read_cues}

-- the answer as the struct that it is read from
abbrev told : Answer Said → Answer Cued
told (accepted said) = accepted (record { wrapped = said.wrapped; finished = said.finished; count = said.count })
told (refused n facts) = refused n facts

told_same : (r : Result Cued Refusal) → told (read_report r) ≡ read r
told_same (Ok cued) = refl
told_same (Err why) = refl

pub cues_apart : Apart read_cues
cues_apart r s e =
    let p = results_apart r.answer s.answer (sym (told_same r.answer) ∙ ap (λ (h : Handed Said). told h.answer) e ∙ told_same s.answer) in
    λ i. record { transport = (e i).transport; answer = p i }
