-- The first 3 * k words are those of the first k points, and r is the number that the next one begins with.
use Rattle.std.proofs.Common.{ℕ, ◌*◌, ap, ◌∙◌, arith}
use lib.ListN.{length-replicate}
use Rattle.benching.specs.Words.{next_of}
use Rattle.benching.specs.Maps.{meter_point}
use Rattle.benching.proofs.Words.{begins, two_on, meter_words_lem}
use Rattle.benching.proofs.Filling.{none, three_words, whole}
use Rattle.benching.proofs.maps.meter_words.Goals as goal

pub loop-k-init : goal.loop-k-init
loop-k-init c = (none meter_point _, omega arith, begins)

pub loop-k-preserved : goal.loop-k-preserved
loop-k-preserved c =
    let after = c.next-r.ensures ∙ ap next_of c.next-s.ensures ∙ two_on c.loop-k.k c.loop-k.r c.loop-k.invariant.2 in
    let words = meter_words_lem c.loop-k.k c.loop-k.r c.loop-k.invariant.2 _ _ c.next-s.ensures c.denominator.ensures in
    (three_words meter_point _ c.loop-k.map c.loop-k.k _ _ _ words c.loop-k.invariant.0, omega (arith, c.loop-k-test.true), after)

pub returns : goal.returns
returns c = whole meter_point _ c.loop-k.map c.loop-k.k (3 * c.loop-k.k) 4096 (omega (arith, length-replicate {A = ℕ} 12288 0)) (omega arith) c.loop-k.invariant.0
