-- The line is that of what was worked out, which fits its types and so has at most 64 bytes.
use Rattle.std.proofs.Common.{rules, arith, ◌^◌, ◌<◌, w64}
use mir.Val.{SFits}
use Rattle.meter.specs.Meters.{points_of}
use Rattle.tempo.specs.Maps.{points}
use Rattle.text.proofs.Laws.{append_as}
use Rattle.sheet_text.proofs.Rows.{line_short, line_is}
use Rattle.sheet_text.proofs.lines.bar_line.Goals as goal

pub line-requires : goal.line-requires
line-requires c =
    let num : SFits w64 c.start-start.result.num = search rules in
    let den : c.start-start.result.den < 2 ^ 32 = search rules in
    omega (arith, line_short _ _ _ c.label.type_inv num den c.frame_at_bar-frame.type_inv)

pub returns : goal.returns
returns c =
    let is = line_is c.args.t (points_of c.args.words.now) (points c.args.map.now) c.label.ensures c.start-start.ensures c.frame_at_bar-frame.ensures in
    let num : SFits w64 c.start-start.result.num = search rules in
    let den : c.start-start.result.den < 2 ^ 32 = search rules in
    record { puts = append_as is c.line.ensures; upper_bound = omega (arith, line_short _ _ _ c.label.type_inv num den c.frame_at_bar-frame.type_inv) }
