-- 0 for a beat at or below 0; else what the search finds in its two parts.
use Rattle.std.proofs.Common.{◌≡◌, Bool, sym, ap, ◌∙◌}
use Rattle.beats.specs.declared.Beat.{Beat}
use Rattle.beats.specs.Beats.{zero_beat}
use Rattle.beats.specs.Sums.{below_beat}
use Rattle.meter.specs.declared.bars.MeterMap.{MeterMap}
use Rattle.meter.specs.Meters.{points_of}
use Rattle.meter.specs.Counts.{doubling, halving, reaches}
use Rattle.meter.proofs.Counting.{count_zero, count_within}
use Rattle.meter.proofs.bars.MeterMap.elapsed.Goals as goal

-- whether the beat is above 0
tested : (below t : Bool) (zero beat : Beat) → zero ≡ zero_beat → below ≡ below_beat zero beat → below ≡ t → below_beat zero_beat beat ≡ t
tested below t zero beat z b e = sym (b ∙ ap (λ (x : Beat). below_beat x beat) z) ∙ e

pub returns-then-not-below : goal.returns-then-not-below
returns-then-not-below c =
    let map = c.args.self.now in
    sym (count_zero (points_of map.words.now) map.default map.pickup c.args.beat (tested _ _ _ c.args.beat c.zero.ensures c.below.ensures c.if-not-below.true))

pub returns-in-Some : goal.returns-in-Some
returns-in-Some c =
    let map = c.args.self.now in
    c.first_bar.ensures
    ∙ ap (λ (m : MeterMap). halving (reaches (points_of m.words.now) m.default m.pickup c.args.beat) 32 0 c.in-Some.hi) c.open-opening.ensures.map
    ∙ count_within (points_of map.words.now) map.default map.pickup c.args.beat _ (tested _ _ _ c.args.beat c.zero.ensures c.below.ensures c.if-not-below.false)
    (sym c.in-Some.is ∙ c.upper_bar.ensures ∙ ap (λ (m : MeterMap). doubling (reaches (points_of m.words.now) m.default m.pickup c.args.beat) 32 1) c.open-opening.ensures.map)

pub returns-in-None : goal.returns-in-None
returns-in-None c =
    let map = c.args.self.now in
    count_within (points_of map.words.now) map.default map.pickup c.args.beat _ (tested _ _ _ c.args.beat c.zero.ensures c.below.ensures c.if-not-below.false)
    (sym c.in-None.is ∙ c.upper_bar.ensures ∙ ap (λ (m : MeterMap). doubling (reaches (points_of m.words.now) m.default m.pickup c.args.beat) 32 1) c.open-opening.ensures.map)
