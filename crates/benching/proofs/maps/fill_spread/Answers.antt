-- The first k words are those of the first k inputs.
use Rattle.std.proofs.Common.{arith}
use Rattle.benching.specs.Maps.{spread_at}
use Rattle.benching.proofs.Words.{share}
use Rattle.benching.proofs.Filling.{none, one_word, lent}
use Rattle.benching.proofs.maps.fill_spread.Goals as goal

pub loop-k-init : goal.loop-k-init
loop-k-init c = (none (spread_at c.args.span) _, omega arith)

pub loop-k-preserved : goal.loop-k-preserved
loop-k-preserved c =
    let word = share c.args.span c.loop-k.k _ _ _ c.place-at.ensures c.saturating_mul.ensures c.to_u32.ensures in
    (one_word (spread_at c.args.span) _ c.loop-k.questions c.loop-k.k _ word c.loop-k.invariant.0, omega (arith, c.loop-k-test.true))

pub returns : goal.returns
returns c = lent (spread_at c.args.span) _ c.loop-k.questions c.loop-k.k c.loop-k.k 8192 (omega arith) c.loop-k.invariant.0
