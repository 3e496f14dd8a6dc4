-- The line up to its comment.
use Rattle.std.proofs.Common.{List, ℕ, ap, ◌∙◌}
use Rattle.items.specs.Items.{item_of}
use Rattle.splits.proofs.Laws.{body_is}
use Rattle.splits.specs.Splits.{words}
use Rattle.items.proofs.of_line.Goals as goal

pub returns : goal.returns
returns c =
    c.of_body.ensures ∙ ap (λ (l : List ℕ). item_of (words l)) (body_is c.args.line.now c.until-end.result c.until-end.ensures.0)
