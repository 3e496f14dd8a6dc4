-- What was read is what the file says; other bytes are refused.
use Rattle.text.proofs.Laws.{append_as}
use Rattle.score.proofs.Laws.{meters_few, tempos_few, bad_file}
use Rattle.form_text.proofs.Files.{form_is, other_is}
use Rattle.form_text.proofs.form.Goals as goal

pub invariant_of-form : goal.invariant_of-form
invariant_of-form c =
    record { few_meters = meters_few c.args.file.now c.in-Ok.is c.read_score.ensures.result_value; few_tempos = tempos_few c.args.file.now c.in-Ok.is c.read_score.ensures.result_value }

pub returns-in-Ok-clause-puts : goal.returns-in-Ok-clause-puts
returns-in-Ok-clause-puts c = append_as (form_is c.args.file.now c.in-Ok.is c.read_score.ensures.result_value c.read_score.ensures.leaves) c.form.ensures.puts

pub returns-in-Err-clause-puts : goal.returns-in-Err-clause-puts
returns-in-Err-clause-puts c = append_as (other_is c.args.file.now (bad_file c.args.file.now c.in-Err.is c.read_score.ensures.result_value)) c.bytes.ensures
