-- The first k numbers are those of the first k points.
use Rattle.std.proofs.Common.{◌*◌, [], ◌∷◌, ℤ, pos, ap, arith}
use lib.ListN.{length-replicate}
use Rattle.numbers.proofs.Laws.{read_pos}
use Rattle.benching.specs.Maps.{tempo_num}
use Rattle.benching.proofs.Filling.{none, one_word, whole}
use Rattle.benching.proofs.maps.tempo_nums.Goals as goal

pub loop-k-init : goal.loop-k-init
loop-k-init c = (none tempo_num _, omega arith)

pub loop-k-preserved : goal.loop-k-preserved
loop-k-preserved c =
    (one_word tempo_num _ c.loop-k.num-items c.loop-k.k _ (ap (λ (z : ℤ). z ∷ []) (read_pos (4 * c.loop-k.k) (omega arith))) c.loop-k.invariant.0, omega arith)

pub returns : goal.returns
returns c = whole tempo_num _ c.loop-k.num-items c.loop-k.k c.loop-k.k 1024 (omega (arith, length-replicate 1024 (pos 0))) (omega arith) c.loop-k.invariant.0
