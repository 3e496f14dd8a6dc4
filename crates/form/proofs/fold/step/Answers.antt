-- By what the line says.
use Rattle.std.proofs.Common.{sym, ◌∙◌}
use Rattle.std.proofs.lemmas.Result.{err_from_is_err_and}
use Rattle.form.proofs.Steps.{taken_is, told_is, none_is, nothing_step, wrong_step, rate_step, beats_step, tempo_step, pickup_step, meter_step, point_step}
use Rattle.form.proofs.fold.step.Goals as goal

pub returns-in_err-item : goal.returns-in_err-item
returns-in_err-item c =
    let p = err_from_is_err_and c.from_residual.result c.from_residual.ensures.1 in
    rw (p.1, p.2) (taken_is _ _ (wrong_step _ _ _) (sym c.in_err-item.was ∙ c.of_line.ensures))

pub returns-in_default : goal.returns-in_default
returns-in_default c = taken_is _ _ (nothing_step _ _) (none_is c.in_default.is c.in_ok-item.was c.of_line.ensures)

pub returns-in-Rate : goal.returns-in-Rate
returns-in-Rate c = taken_is _ _ (rate_step _ _ _ c.with_rate.ensures) (told_is c.in-Some.is c.in-Rate.is c.in_ok-item.was c.of_line.ensures)

pub returns-in-Beats : goal.returns-in-Beats
returns-in-Beats c = taken_is _ _ (beats_step _ _ _ c.with_beats.ensures) (told_is c.in-Some.is c.in-Beats.is c.in_ok-item.was c.of_line.ensures)

pub returns-in-Tempo : goal.returns-in-Tempo
returns-in-Tempo c = taken_is _ _ (tempo_step _ _ _ c.with_tempo.ensures) (told_is c.in-Some.is c.in-Tempo.is c.in_ok-item.was c.of_line.ensures)

pub returns-in-Pickup : goal.returns-in-Pickup
returns-in-Pickup c = taken_is _ _ (pickup_step _ _ _ c.with_pickup.ensures) (told_is c.in-Some.is c.in-Pickup.is c.in_ok-item.was c.of_line.ensures)

pub returns-in-MeterPoint : goal.returns-in-MeterPoint
returns-in-MeterPoint c = taken_is _ _ (meter_step _ _ _ _ _ _ c.meter_step.ensures.0 c.meter_step.ensures.1) (told_is c.in-Some.is c.in-MeterPoint.is c.in_ok-item.was c.of_line.ensures)

pub returns-in-TempoPoint : goal.returns-in-TempoPoint
returns-in-TempoPoint c = taken_is _ _ (point_step _ _ _ _ _ c.tempo_step.ensures.0 c.tempo_step.ensures.1) (told_is c.in-Some.is c.in-TempoPoint.is c.in_ok-item.was c.of_line.ensures)
