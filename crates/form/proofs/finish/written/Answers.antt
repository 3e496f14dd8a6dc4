-- The answer of the writer, told at the line.
use Rattle.std.proofs.Common.{sym, ap, ◌∙◌}
use Rattle.numbers.specs.Refusals.{read}
use Rattle.form.specs.Forms.{written_by}
use Rattle.form.proofs.finish.written.Goals as goal

pub returns-in-Ok : goal.returns-in-Ok
unfolding written_by
returns-in-Ok c = (ap (written_by _) (sym (ap read c.in-Ok.is) ∙ c.write_score.ensures.answer_is), c.write_score.ensures.bytes_are)

pub returns-in-Err : goal.returns-in-Err
unfolding written_by
returns-in-Err c = (ap (written_by _) (sym (ap read c.in-Err.is) ∙ c.write_score.ensures.answer_is), c.write_score.ensures.bytes_are)
