-- Five texts one behind another.
use Rattle.std.proofs.Common.{rules, arith, ◌^◌, ◌<◌, w64}
use mir.Val.{SFits}
use Rattle.text.proofs.Laws.{beat_short}
use Rattle.form_text.proofs.Rows.{tempo_put}
use Rattle.form_text.proofs.lines.tempo_line.Goals as goal

pub beat-requires : goal.beat-requires
beat-requires c =
    let num : SFits w64 c.args.beat.num = search rules in
    let den : c.args.beat.den < 2 ^ 32 = search rules in
    omega (arith, beat_short c.args.beat num den)

pub byte-requires : goal.byte-requires
byte-requires c =
    let num : SFits w64 c.args.beat.num = search rules in
    let den : c.args.beat.den < 2 ^ 32 = search rules in
    omega (arith, beat_short c.args.beat num den)

pub tempo-requires : goal.tempo-requires
tempo-requires c =
    let num : SFits w64 c.args.beat.num = search rules in
    let den : c.args.beat.den < 2 ^ 32 = search rules in
    omega (arith, beat_short c.args.beat num den)

pub byte-requires-2 : goal.byte-requires-2
byte-requires-2 c =
    let num : SFits w64 c.args.beat.num = search rules in
    let den : c.args.beat.den < 2 ^ 32 = search rules in
    omega (arith, beat_short c.args.beat num den)

pub returns : goal.returns
returns c =
    let num : SFits w64 c.args.beat.num = search rules in
    let den : c.args.beat.den < 2 ^ 32 = search rules in
    record {
      puts = tempo_put (omega arith) c.args.beat c.args.bits c.bytes.ensures c.beat.ensures c.byte.ensures c.tempo.ensures.puts c.byte-2.ensures;
      upper_bound = omega (arith, beat_short c.args.beat num den);
    }
