-- The line of a beat, and none where there is none.
use Rattle.std.proofs.Common.{rules, arith, ◌^◌, ◌<◌, w64}
use mir.Val.{SFits}
use Rattle.text.proofs.Laws.{beat_short}
use Rattle.form_text.proofs.Rows.{pickup_none, pickup_put}
use Rattle.form_text.proofs.lines.pickup_line.Goals as goal

pub beat-requires : goal.beat-requires
beat-requires c =
    let num : SFits w64 c.in-Some.beat.num = search rules in
    let den : c.in-Some.beat.den < 2 ^ 32 = search rules in
    omega (arith, beat_short c.in-Some.beat num den)

pub byte-requires : goal.byte-requires
byte-requires c =
    let num : SFits w64 c.in-Some.beat.num = search rules in
    let den : c.in-Some.beat.den < 2 ^ 32 = search rules in
    omega (arith, beat_short c.in-Some.beat num den)

pub returns-in-Some : goal.returns-in-Some
returns-in-Some c =
    let num : SFits w64 c.in-Some.beat.num = search rules in
    let den : c.in-Some.beat.den < 2 ^ 32 = search rules in
    record {
      puts = pickup_put (omega arith) c.in-Some.beat c.in-Some.is c.bytes.ensures c.beat.ensures c.byte.ensures;
      upper_bound = omega (arith, beat_short c.in-Some.beat num den);
    }

pub returns-in_default : goal.returns-in_default
returns-in_default c = record { puts = pickup_none _ c.in_default.is; upper_bound = omega arith }
