-- The composition of the steps; the literals 0.0 and 1.0 are the definition's `float0` and `float1`.
use Rattle.std.proofs.Common.{ap, ◌∙◌}
use lib.Ieee.{of_bits}
use Rattle.meter.specs.declared.bars.MeterMap.{MeterMap}
use Rattle.meter.specs.Meters.{points_of, bar_len}
use Rattle.meter.specs.Starts.{start_of}
use Rattle.timeline.proofs.Bars.{bars_are}
use Rattle.timeline.proofs.places.position_bars.Goals as goal

pub returns : goal.returns
unfolding of_bits
returns c =
    let bar = c.current_bar-bar.result in
    rw c.from.ensures
    (bars_are c.args.t (points_of c.args.words.now) _ _ (rw (c.nearest_beat-beat.ensures, c.position_beats.ensures)) _ _ _ _ _
    (record {
      bar_is = c.current_bar-bar.ensures;
      start_is = c.start-start.ensures ∙ ap (λ (m : MeterMap). start_of (points_of m.words.now) m.default m.pickup bar) c.meter_map-meters.ensures;
      len_is = c.length-len.ensures ∙ ap (λ (m : MeterMap). bar_len (points_of m.words.now) m.default m.pickup bar) c.meter_map-meters.ensures;
      part_is = c.part_of.ensures;
      kept_is = c.clamp_f64.ensures;
    }))
