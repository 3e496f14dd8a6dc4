-- What is handed back is sound.
use Rattle.std.proofs.Common.{ap, ◌∙◌}
use Rattle.transport.specs.Transports.{sound}
use Rattle.transport.specs.Changes.{Handed}
use Rattle.cues.specs.CueCall.{Said}
use Rattle.bench_cues.proofs.Kept.{kept}
use Rattle.bench_cues.proofs.rows.cue_tested.Goals as goal

pub loop-preserved : goal.loop-preserved
loop-preserved c =
    ap (λ (handed : Handed Said). sound handed.transport) c.tested-run.ensures.answer ∙ kept c.loop.now c.loop.invariant c.args.frames c.args.lines.frames.now c.loop.out
