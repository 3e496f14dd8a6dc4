-- The number 0 is the fallback, and another is read at its place.
use Rattle.std.proofs.Common.{ap, ◌∙◌}
use Rattle.meter.specs.Meters.{len_of}
use Rattle.filler.proofs.Numbering.{numbered_none, numbered_point}
use Rattle.filler.proofs.segments.length_of.Goals as goal

pub returns-then-number-eq0 : goal.returns-then-number-eq0
returns-then-number-eq0 c =
    c.len.ensures ∙ ap len_of (c.unlisted.ensures ∙ numbered_none c.args.map.now.words.now c.args.map.now.default c.args.number c.if-number-eq0.true)

pub returns : goal.returns
returns c =
    c.len-2.ensures ∙ ap len_of (numbered_point c.args.map.now.words.now c.args.map.now.default c.args.number c.if-number-eq0.false)
