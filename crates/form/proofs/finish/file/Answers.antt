-- Something is missing, or the writer answers by the points that count.
use Rattle.std.proofs.Common.{sym, ◌∙◌}
use Rattle.form.proofs.Ends.{end_wrong, end_whole}
use Rattle.form.proofs.finish.file.Goals as goal

pub returns-in-Err : goal.returns-in-Err
returns-in-Err c =
    end_wrong c.args.draft _ _ _ _ c.last_line-line.ensures (sym c.in-Err.is ∙ c.score_of.ensures)

pub returns-in-Ok : goal.returns-in-Ok
returns-in-Ok c =
    end_whole c.args.draft _ _ _ _ c.last_line-line.ensures (sym c.in-Ok.is ∙ c.score_of.ensures) c.written.ensures.0 c.written.ensures.1
