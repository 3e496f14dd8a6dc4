-- Other bytes are refused; a score file's answer is that of what was read.
use Rattle.std.proofs.Common.{ap, ◌∙◌, arith}
use Rattle.meter.specs.Meters.{sound_pickup}
use Rattle.score.proofs.Laws.{bad_file, meters_few, tempos_few, pickup_sound}
use Rattle.text.proofs.Laws.{append_as}
use Rattle.count_text.proofs.Files.{other_is, file_is}
use Rattle.count_text.proofs.count.Goals as goal

pub invariant_of-music : goal.invariant_of-music
invariant_of-music c =
    record { few_meters = meters_few c.args.file.now c.in-Ok.is c.read_score.ensures.result_value; few_tempos = tempos_few c.args.file.now c.in-Ok.is c.read_score.ensures.result_value }

pub asked-requires : goal.asked-requires
asked-requires c = (omega arith, ap sound_pickup c.meter_map.ensures.pickup ∙ pickup_sound c.args.file.now c.in-Ok.is c.read_score.ensures.result_value)

pub returns-in-Ok-clause-puts : goal.returns-in-Ok-clause-puts
returns-in-Ok-clause-puts c =
    let m = c.meter_map.ensures in
    append_as (file_is c.args.file.now c.args.word.now c.in-Ok.is c.read_score.ensures.result_value _ c.read_score.ensures.leaves.meter_is m.words m.default m.pickup) c.asked.ensures.puts

pub returns-in-Err-clause-puts : goal.returns-in-Err-clause-puts
returns-in-Err-clause-puts c = append_as (other_is c.args.word.now _ (bad_file c.args.file.now c.in-Err.is c.read_score.ensures.result_value)) c.bytes.ensures
