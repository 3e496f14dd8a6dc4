-- The walk, and then its end.
use Rattle.std.proofs.Common.{Err, ap, ◌∙◌}
use Rattle.std.proofs.lemmas.Result.{err_from_is_err_and}
use Rattle.form.proofs.Ends.{walk_wrong, walk_done}
use Rattle.form.proofs.Short.{short}
use Rattle.form.proofs.read_form.Goals as goal

pub returns-in_err-read : goal.returns-in_err-read
returns-in_err-read c =
    let p = err_from_is_err_and c.from_residual.result c.from_residual.ensures.1 in
    let told = walk_wrong _ _ _ c.lines.ensures c.in_err-read.was in
    let is = p.1 ∙ ap Err p.2 ∙ told.0 in
    record { value = (is, told.1); file_fits = short c.args.text.now c.args.out.now (is, told.1) }

pub returns : goal.returns
returns c =
    let told = walk_done _ _ _ c.lines.ensures c.in_ok-read.was c.file.ensures.0 c.file.ensures.1 in
    record { value = told; file_fits = short _ _ told }
