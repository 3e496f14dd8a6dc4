-- A new segment, or the same one, by the test that the definition makes.
use Rattle.std.proofs.Common.{sym, ◌∙◌}
use Rattle.filler.proofs.Standing.{number_within, has_new, has_same}
use Rattle.filler.proofs.segments.Segment.on_to.Goals as goal

pub length_of-requires : goal.length_of-requires
length_of-requires c =
    let map = c.args.map.now in
    number_within map.words.now map.default map.pickup c.args.bar c.args.mark c.args.self c.requires.before c.requires.mark_value _ c.max-number.ensures

pub returns-then-begins : goal.returns-then-begins
returns-then-begins c =
    let map = c.args.map.now in
    has_new map.words.now map.default map.pickup c.args.bar c.args.mark c.args.self c.requires.before c.requires.mark_value
    _ _ _ c.max-number.ensures c.length_of.ensures (sym c.begins.ensures ∙ c.if-begins.true) c.end_before.ensures

pub returns : goal.returns
returns c =
    let map = c.args.map.now in
    has_same map.words.now map.default map.pickup c.args.bar c.args.mark c.args.self c.requires.before c.requires.mark_value
    _ c.max-number.ensures (sym c.begins.ensures ∙ c.if-begins.false)
