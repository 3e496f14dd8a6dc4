-- The call's frame, sought, and its refusals.
use Rattle.std.proofs.Common.{◌≡◌, rules, ap, ◌∙◌, Err, MatchResult, IsOkAnd}
use Rattle.transport.specs.Transports.{seek_to}
use Rattle.transport.specs.Readings.{read_handed}
use Rattle.timeline.proofs.Testing.{seeks}
use Rattle.timeline.proofs.seek_bar.Goals as goal

pub returns : goal.returns
returns c =
    let h : MatchResult c.frame_at_bar-frame.result (λ n. IsOkAnd c.map.result (λ s. s ≡ seek_to c.args.t n)) (λ why. c.map.result ≡ Err why) = search rules in
    ap read_handed c.handed_back.ensures ∙ seeks c.args.t _ _ _ _ c.frame_at_bar-frame.ensures h
