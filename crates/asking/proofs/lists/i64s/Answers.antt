-- Each element is what the closure gives for its index.
use Rattle.std.proofs.Common.{rules, pos}
use Rattle.asking.specs.Lists.{i64_in}
use Rattle.asking.proofs.Filling.{filled}
use Rattle.asking.proofs.lists.i64s.Goals as goal

pub returns : goal.returns
returns c =
    filled (pos 0) (i64_in c.args.list.now) c.fill.new.space _ c.fill.ensures.len (λ j l. let p = c.fill.ensures.each j l (pos 0) in search rules)
