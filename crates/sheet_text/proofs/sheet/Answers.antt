-- Other bytes are refused; a score file's sheet is that of what was read.
use Rattle.score.proofs.Laws.{bad_file, meters_few, tempos_few}
use Rattle.text.proofs.Laws.{append_as}
use Rattle.sheet_text.proofs.Files.{other_is, sheet_is}
use Rattle.sheet_text.proofs.sheet.Goals as goal

pub invariant_of-sheet : goal.invariant_of-sheet
invariant_of-sheet c =
    record { few_meters = meters_few c.args.bytes.now c.in-Ok.is c.read_score.ensures.result_value; few_tempos = tempos_few c.args.bytes.now c.in-Ok.is c.read_score.ensures.result_value }

pub returns-in-Ok-clause-puts : goal.returns-in-Ok-clause-puts
returns-in-Ok-clause-puts c = append_as (sheet_is c.args.bytes.now c.in-Ok.is c.read_score.ensures.result_value c.read_score.ensures.leaves) c.sheet.ensures.puts

pub returns-in-Err-clause-puts : goal.returns-in-Err-clause-puts
returns-in-Err-clause-puts c = append_as (other_is c.args.bytes.now (bad_file c.args.bytes.now c.in-Err.is c.read_score.ensures.result_value)) c.bytes.ensures
