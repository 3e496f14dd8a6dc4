-- It begins with the tempo of the first point; where there is none, there is no walk.
use lib.Ieee.{of_bits}
use Rattle.filler.proofs.Serving.{serves_begin}
use Rattle.filler.proofs.stands.Stand.begin.Goals as goal

pub returns-else-is_empty : goal.returns-else-is_empty
unfolding of_bits
returns-else-is_empty c =
    let map = c.args.map.now in serves_begin map.nums.now map.dens.now map.tempos.now map.parallel _ (λ h. c.tempo_of-tempo.ensures)
