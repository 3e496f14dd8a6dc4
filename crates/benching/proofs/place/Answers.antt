-- A section is a whole number of places, so inputs that come round lie where they lay.
use Rattle.benching.proofs.Words.{round}
use Rattle.benching.proofs.place.Goals as goal

pub returns : goal.returns
returns c = round c.args.k
