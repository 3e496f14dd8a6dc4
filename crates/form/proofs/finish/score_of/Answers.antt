-- The first that was not said is told.
use Rattle.std.proofs.lemmas.Result.{err_from_is_err_and}
use Rattle.spelling.proofs.Laws.{missing}
use Rattle.form.proofs.Ends.{no_rate, no_beats, no_tempo, all_said}
use Rattle.form.proofs.finish.score_of.Goals as goal

pub returns-in_err-rate : goal.returns-in_err-rate
returns-in_err-rate c =
    let p = err_from_is_err_and c.from_residual.result c.from_residual.ensures.1 in
    let why = missing _ _ _ c.in_err-rate.ensures.ok_part c.in_err-rate.ensures.value in
    rw (p.1, p.2, why) (no_rate _ c.in_err-rate.ensures.ok_part)

pub returns-in_err-beats : goal.returns-in_err-beats
returns-in_err-beats c =
    let p = err_from_is_err_and c.from_residual-in_err-beats.result c.from_residual-in_err-beats.ensures.1 in
    let why = missing _ _ _ c.in_err-beats.ensures.ok_part c.in_err-beats.ensures.value in
    rw (p.1, p.2, why) (no_beats _ _ c.in_ok-rate.ensures.ok_part c.in_err-beats.ensures.ok_part)

pub returns-in_err-bpm : goal.returns-in_err-bpm
returns-in_err-bpm c =
    let p = err_from_is_err_and c.from_residual-in_err-bpm.result c.from_residual-in_err-bpm.ensures.1 in
    let why = missing _ _ _ c.in_err-bpm.ensures.ok_part c.in_err-bpm.ensures.value in
    rw (p.1, p.2, why) (no_tempo _ _ c.in_ok-rate.ensures.ok_part _ c.in_ok-beats.ensures.ok_part c.in_err-bpm.ensures.ok_part)

pub returns : goal.returns
returns c = all_said _ _ c.in_ok-rate.ensures.ok_part _ c.in_ok-beats.ensures.ok_part _ c.in_ok-bpm.ensures.ok_part
