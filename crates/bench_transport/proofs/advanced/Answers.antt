-- The transport stays sound.
use Rattle.std.proofs.Common.{ap, ◌∙◌}
use Rattle.transport.specs.declared.playhead.Run.{Run}
use Rattle.transport.specs.Transports.{sound}
use Rattle.transport.proofs.Laws.{advanced_sound}
use Rattle.bench_transport.proofs.advanced.Goals as goal

pub loop-i-preserved : goal.loop-i-preserved
loop-i-preserved c =
    ap (λ (r : Run). sound r.transport) c.advanced-run.ensures ∙ advanced_sound c.loop-i.t c.loop-i.invariant _
