-- The first k words are those of the first k points, and r is the number that the next one is made of.
use Rattle.std.proofs.Common.{ℕ, ◌+◌, ◌%◌, ◌^◌, [], ◌∷◌, ap, ◌∙◌, arith}
use lib.ListN.{length-replicate}
use Rattle.benching.specs.Words.{next_of}
use Rattle.benching.specs.Maps.{tempo_bits}
use Rattle.benching.proofs.Words.{begins, two_on}
use Rattle.benching.proofs.Filling.{none, one_word, whole}
use Rattle.benching.proofs.maps.tempo_bits.Goals as goal

pub loop-tempo-init : goal.loop-tempo-init
loop-tempo-init c = (none tempo_bits _, omega arith, begins)

pub loop-tempo-preserved : goal.loop-tempo-preserved
loop-tempo-preserved c =
    let word = ap (λ (x : ℕ). (0x42800000 + x % 2 ^ 24) ∷ []) c.loop-tempo.invariant.2 in
    let after = c.next-r.ensures ∙ ap next_of c.next.ensures ∙ two_on c.loop-tempo.tempo-index c.loop-tempo.r c.loop-tempo.invariant.2 in
    (one_word tempo_bits _ c.loop-tempo.tempo-items c.loop-tempo.tempo-index _ word c.loop-tempo.invariant.0, omega (arith, c.loop-tempo-test.true), after)

pub returns : goal.returns
returns c = whole tempo_bits _ c.loop-tempo.tempo-items c.loop-tempo.tempo-index c.loop-tempo.tempo-index 1024 (omega (arith, length-replicate {A = ℕ} 1024 0)) (omega arith) c.loop-tempo.invariant.0
