-- The four words are those of the definition.
use Rattle.std.proofs.Common.{ap, ◌∙◌, w64}
use mir.ValLaws.{to_z-of_z}
use Rattle.numbers.specs.Bits.{bits_of}
use Rattle.text.proofs.Laws.{append_as}
use Rattle.score.specs.Bytes.{words_bytes}
use Rattle.score_writer.proofs.Putting.{point_is}
use Rattle.score_writer.proofs.words.point.Goals as goal

pub returns : goal.returns
returns c =
    let e = c.as_bits-whole.ensures ∙ ap bits_of (to_z-of_z w64 c.args.num c.ranges.num) in
    append_as (ap words_bytes (point_is c.args.num c.args.den c.args.bpm e)) c.words.ensures
