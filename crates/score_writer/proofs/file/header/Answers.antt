-- The twelve words are those of the definition.
use Rattle.std.proofs.Common.{rules, ap, ◌∙◌, w64}
use mir.Val.{SFits}
use mir.ValLaws.{to_z-of_z}
use Rattle.numbers.specs.Bits.{bits_of}
use Rattle.text.proofs.Laws.{append_as}
use Rattle.score.specs.Bytes.{words_bytes}
use Rattle.score_writer.proofs.Putting.{header_is}
use Rattle.score_writer.proofs.file.header.Goals as goal

pub returns : goal.returns
returns c =
    let fits : SFits w64 c.pickup_or-beat.result.num = search rules in
    let e = c.as_bits-whole.ensures ∙ ap bits_of (to_z-of_z w64 c.pickup_or-beat.result.num fits) in
    append_as (ap words_bytes (header_is c.args.music.score c.pickup_or-beat.result c.pickup_or-beat.ensures e)) c.words.ensures
