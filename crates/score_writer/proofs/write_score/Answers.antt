-- Nothing is written before the tests have passed.
use Rattle.std.proofs.Common.{sym, ◌∙◌, arith}
use Rattle.score_writer.proofs.Outcomes.{many_meters_lem, many_tempos_lem, bad_pickup, bad_beats, written}
use Rattle.score_writer.proofs.write_score.Goals.{then-score-gt256-via-then-score-gt256, then-score-gt256-via-else-score-gt256+then-score-gt1024}
use Rattle.score_writer.proofs.write_score.Goals.{then-not-is_sound_pickup-via-then-not-is_sound_pickup, then-not-is_sound_pickup-via-else-not-is_sound_pickup+then-not-beats_good}
use Rattle.score_writer.proofs.write_score.Goals as goal

pub returns-then-score-gt256 : goal.returns-then-score-gt256
returns-then-score-gt256 c =
    elim c.then-score-gt256.branch [
      | then-score-gt256-via-then-score-gt256 w ↦ many_meters_lem c.args.score _ _ _ _ _ w.if-score-gt256.true
      | then-score-gt256-via-else-score-gt256+then-score-gt1024 w ↦ many_tempos_lem c.args.score _ _ _ _ _ w.if-score-gt256.false w.if-score-gt1024.true
    ]

pub returns-then-not-is_sound_pickup : goal.returns-then-not-is_sound_pickup
returns-then-not-is_sound_pickup c =
    elim c.then-not-is_sound_pickup.branch [
      | then-not-is_sound_pickup-via-then-not-is_sound_pickup w ↦ bad_pickup c.args.score _ _ _ _ _ (omega arith) (omega arith) (sym c.is_sound_pickup.ensures ∙ w.if-not-is_sound_pickup.true)
      | then-not-is_sound_pickup-via-else-not-is_sound_pickup+then-not-beats_good w ↦
          bad_beats c.args.score _ _ _ _ _ (omega arith) (omega arith) (sym c.is_sound_pickup.ensures ∙ w.if-not-is_sound_pickup.false) (sym w.beats_good.ensures ∙ w.if-not-beats_good.true)
    ]

pub returns : goal.returns
returns c =
    let sound = sym c.is_sound_pickup.ensures ∙ c.if-not-is_sound_pickup.false in
    let beats = sym c.beats_good.ensures ∙ c.if-not-beats_good.false in
    written c.args.score _ _ _ _ _ (omega arith) (omega arith) sound beats c.write.ensures
