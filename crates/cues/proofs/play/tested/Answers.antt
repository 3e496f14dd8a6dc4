-- By whether the transport plays.
use Rattle.std.proofs.Common.{sym, ◌∙◌}
use Rattle.cues.proofs.Answering.{fine, idle}
use Rattle.cues.proofs.play.tested.Goals as goal

pub returns : goal.returns
returns c =
    let a =
    idle c.args.t c.args.lines.frames.now c.args.frames c.args.out.now c.requires.fit (fine _ c.requires.few c.args.lines.in_order)
    (sym c.is_playing.ensures ∙ c.if-is_playing.false)
    in
    record { answer = a.0; words = a.1 }
