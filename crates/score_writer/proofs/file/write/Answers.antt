-- Three parts one behind another.
use Rattle.std.proofs.Common.{ap, arith, length}
use Rattle.text.proofs.Laws.{append_front, append_as}
use Rattle.score.specs.Bytes.{words_bytes}
use Rattle.score_writer.proofs.Putting.{header_length, words_end, file_parts, same_points}
use Rattle.score_writer.proofs.file.write.Goals as goal

pub words-requires : goal.words-requires
words-requires c =
    let long = ap length c.new-page.ensures.empty.0 in
    let h = words_end _ (omega (arith, long, header_length c.args.music.score, c.new-page.ensures)) c.header.ensures in
    omega (arith, long, h, header_length c.args.music.score, c.new-page.ensures)

pub points-requires : goal.points-requires
points-requires c =
    let long = ap length c.new-page.ensures.empty.0 in
    let h = words_end _ (omega (arith, long, header_length c.args.music.score, c.new-page.ensures)) c.header.ensures in
    let w = words_end c.meter.result.now (omega (arith, long, h, header_length c.args.music.score, c.new-page.ensures)) c.words.ensures in
    omega (arith, long, h, w, header_length c.args.music.score, c.new-page.ensures)

pub returns : goal.returns
returns c =
    let t = c.tempo_map.ensures in
    let empty = c.new-page.ensures.empty in
    append_front empty
    (file_parts c.args.music.score _ _ _ _ (omega (arith, empty)) c.header.ensures (append_as (ap words_bytes c.meter.ensures.words) c.words.ensures) (append_as (same_points t.nums t.dens t.tempos) c.points.ensures))
