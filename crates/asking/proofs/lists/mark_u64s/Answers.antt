-- Each element is what the closure gives for its index.
use Rattle.std.proofs.Common.{rules}
use Rattle.asking.specs.Lists.{mark64}
use Rattle.asking.proofs.Filling.{filled}
use Rattle.asking.proofs.lists.mark_u64s.Goals as goal

pub returns : goal.returns
returns c =
    filled 0 mark64 c.fill.new.space _ c.fill.ensures.len (λ j l. let p = c.fill.ensures.each j l 0 in search rules)
