-- After k turns the lines of the first k bars are put.
use Rattle.std.proofs.Common.{◌≡◌, ap, arith}
use Rattle.meter.specs.Meters.{points_of}
use Rattle.tempo.specs.Maps.{points}
use Rattle.text.proofs.Laws.{append_as}
use Rattle.sheet_text.specs.Sheets.{lines_of}
use Rattle.sheet_text.proofs.Rows.{no_lines, next_line}
use Rattle.sheet_text.proofs.lines.bar_lines.Goals as goal

pub loop-bar-init : goal.loop-bar-init
loop-bar-init c = (omega arith, no_lines _ _ _ _)

pub loop-bar-preserved : goal.loop-bar-preserved
loop-bar-preserved c = (omega arith, next_line c.args.t (points_of c.args.words.now) (points c.args.map.now) c.loop-bar.bar (omega arith) c.loop-bar.invariant.1 c.bar_line.ensures.puts)

pub returns : goal.returns
returns c =
    let e : c.loop-bar.bar ≡ c.args.bars = omega arith in
    record { puts = append_as (ap (lines_of c.args.t (points_of c.args.words.now) (points c.args.map.now)) e) c.loop-bar.invariant.1; upper_bound = omega arith }
