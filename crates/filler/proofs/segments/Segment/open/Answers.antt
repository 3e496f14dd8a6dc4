-- Bar 0 starts at 0, and no point begins before it.
use Rattle.filler.proofs.Standing.{at_open}
use Rattle.filler.proofs.segments.Segment.open.Goals as goal

pub returns : goal.returns
returns c =
    at_open c.args.map.now.words.now c.args.map.now.default c.args.map.now.pickup _ _ c.zero.ensures c.length.ensures
