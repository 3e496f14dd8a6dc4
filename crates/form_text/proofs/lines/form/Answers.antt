-- Three parts one behind another.
use Rattle.std.proofs.Common.{◌≡◌, ap, ◌∙◌, arith, ◌/◌, length}
use Rattle.text.proofs.Laws.{append_as}
use Rattle.form_text.specs.Forms.{meter_lines}
use Rattle.form_text.proofs.Rows.{form_put, same_lines}
use Rattle.form_text.proofs.lines.form.Goals as goal

pub returns-clause-puts : goal.returns-clause-puts
returns-clause-puts c =
    let m = c.meter.ensures in
    let t = c.tempo_map.ensures in
    let third : length c.meter.result.now / 3 ≡ c.args.music.score.meters = omega (arith, m.count) in
    form_put (omega arith) c.args.music.score _ _ _ _ c.head.ensures.puts
    (append_as (ap (meter_lines c.meter.result.now) third ∙ ap (λ l. meter_lines l c.args.music.score.meters) m.words) c.meter_lines.ensures.puts)
    (append_as (same_lines t.nums t.dens t.tempos t.count) c.tempo_lines.ensures.puts)
