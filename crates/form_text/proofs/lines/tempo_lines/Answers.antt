-- The lines of the points so far are put.
use Rattle.std.proofs.Common.{◌≡◌, rules, ap, arith, get_or, pos, w64, length}
use mir.ValLaws.{to_z-of_z}
use Rattle.text.proofs.Laws.{append_as}
use Rattle.form_text.specs.Forms.{tempo_lines}
use Rattle.form_text.proofs.Rows.{no_tempos, next_tempo}
use Rattle.form_text.proofs.lines.tempo_lines.Goals as goal

pub loop-k-init : goal.loop-k-init
loop-k-init c = (omega arith, no_tempos _ _ _ _)

pub loop-k-preserved : goal.loop-k-preserved
loop-k-preserved c =
    let here = to_z-of_z w64 (get_or c.args.map.nums.now c.loop-k.k (pos 0)) (search rules) in
    (omega arith, next_tempo (omega arith) c.args.map.nums.now c.args.map.dens.now c.args.map.tempos.now c.loop-k.k c.loop-k.invariant.1 here c.tempo_line.ensures.puts)

pub returns : goal.returns
returns c =
    let e : c.loop-k.k ≡ length c.args.map.nums.now = omega arith in
    record { puts = append_as (ap (tempo_lines c.args.map.nums.now c.args.map.dens.now c.args.map.tempos.now) e) c.loop-k.invariant.1; upper_bound = omega arith }
