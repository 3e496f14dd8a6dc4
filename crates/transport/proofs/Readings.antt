-- No two answers that a call hands back read alike, since each can be told from its reading. So a contract through a reading has one answer (`one_reading` of numbers).
use Rattle.std.proofs.Common.{◌≡◌, Result, Ok, Err, refl, sym, ap, ◌∙◌}
use Rattle.numbers.specs.declared.refusal.Refusal.{Refusal}
use Rattle.numbers.specs.Answers.{Answer, accepted, refused}
use Rattle.numbers.specs.Refusals.{read}
use Rattle.numbers.proofs.Laws.{Apart, results_apart}
use Rattle.transport.specs.declared.Moves as M
use Rattle.transport.specs.Changes.{Handed}
use Rattle.transport.specs.Advances.{Moves}
use Rattle.transport.specs.Readings.{read_handed, read_moves, read_advanced}

pub handed_apart : {A : Type 0} → Apart (read_handed {A = A})
handed_apart {A} r s e =
    let p = results_apart r.answer s.answer (ap (λ (h : Handed A). h.answer) e) in
    λ i. record { transport = (e i).transport; answer = p i }

-- ---- advances

-- the answer that an advance's is, with the moves as a struct
abbrev told : Answer Moves → Answer M.Moves
told (accepted moves) = accepted (record { wrapped = moves.0; finished = moves.1 })
told (refused n facts) = refused n facts

told_same : (r : Result M.Moves Refusal) → told (read_moves r) ≡ read r
told_same (Ok moves) = refl
told_same (Err why) = refl

pub moves_apart : Apart read_moves
moves_apart r s e = results_apart r s (sym (told_same r) ∙ ap told e ∙ told_same s)

pub advanced_apart : Apart read_advanced
advanced_apart r s e =
    let p = moves_apart r.answer s.answer (ap (λ (h : Handed Moves). h.answer) e) in
    λ i. record { transport = (e i).transport; answer = p i }
