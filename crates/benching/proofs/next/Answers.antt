-- The code is the definition, step by step.
use Rattle.std.proofs.Common.{refl}
use Rattle.benching.specs.Words.{next_of}
use Rattle.benching.proofs.next.Goals as goal

pub returns : goal.returns
unfolding next_of
returns c = refl
