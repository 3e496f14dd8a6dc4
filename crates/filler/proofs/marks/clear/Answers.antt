-- All entries are 0.
use Rattle.std.proofs.Common.{[], length, sym, subst}
use Rattle.filler.specs.Numbers.{Marked}
use Rattle.filler.proofs.Marking.{blank}
use Rattle.filler.proofs.marks.clear.Goals as goal

pub returns : goal.returns
returns c =
    let n = length c.args.out.now in subst (Marked [] n) (sym (c.fill.ensures.after (λ y e. e))) (blank n)
