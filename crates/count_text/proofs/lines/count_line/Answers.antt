-- Five texts one behind another. A beat's text has at most 31 bytes.
use Rattle.std.proofs.Common.{rules, arith, ◌^◌, ◌<◌, w64}
use mir.Val.{SFits}
use Rattle.text.proofs.Laws.{beat_short}
use Rattle.count_text.proofs.Parts.{count_put}
use Rattle.count_text.proofs.lines.count_line.Goals as goal

pub beat-requires : goal.beat-requires
beat-requires c =
    let num : SFits w64 c.args.beat.num = search rules in
    let den : c.args.beat.den < 2 ^ 32 = search rules in
    omega (arith, beat_short c.args.beat num den)

pub byte-requires : goal.byte-requires
byte-requires c =
    let num : SFits w64 c.args.beat.num = search rules in
    let den : c.args.beat.den < 2 ^ 32 = search rules in
    omega (arith, beat_short c.args.beat num den)

pub returns : goal.returns
returns c =
    let num : SFits w64 c.args.beat.num = search rules in
    let den : c.args.beat.den < 2 ^ 32 = search rules in
    record {
      puts = count_put c.args.count (omega arith) c.args.beat c.amount.ensures.puts c.unit.ensures.puts c.bytes.ensures c.beat.ensures c.byte.ensures;
      upper_bound = omega (arith, beat_short c.args.beat num den);
    }
