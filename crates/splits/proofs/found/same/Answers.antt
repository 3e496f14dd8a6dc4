-- The test of std is the definition's.
use Rattle.std.proofs.Common.{◌∙◌}
use Rattle.splits.proofs.Places.{same_is}
use Rattle.splits.proofs.found.same.Goals as goal

pub returns : goal.returns
returns c = let a = c.eq.ensures in a ∙ same_is c.args.word.now c.args.key.now
