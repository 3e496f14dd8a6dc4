-- The larger of the number and 1.
use Rattle.std.proofs.Common.{◌∙◌}
use Rattle.form.proofs.Ends.{last_is}
use Rattle.form.proofs.finish.last_line.Goals as goal

pub returns : goal.returns
returns c = c.max.ensures ∙ last_is _
