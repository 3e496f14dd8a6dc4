-- The header, and the lines behind it.
use Rattle.std.proofs.Common.{arith}
use Rattle.meter.specs.Meters.{points_of}
use Rattle.tempo.specs.Maps.{points}
use Rattle.sheet_text.proofs.Rows.{sheet_put}
use Rattle.sheet_text.proofs.lines.sheet.Goals as goal

pub returns-clause-puts : goal.returns-clause-puts
returns-clause-puts c = sheet_put c.args.t (points_of c.args.words.now) (points c.args.map.now) (omega arith) c.bytes.ensures c.bar_lines.ensures.puts
