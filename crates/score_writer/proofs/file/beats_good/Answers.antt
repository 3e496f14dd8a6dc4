-- The lists are even and short, so the test is that of the beats.
use Rattle.std.proofs.Common.{ap, ◌∙◌, arith, is_ok, refl}
use Rattle.tempo.proofs.Laws.{finding}
use Rattle.score_writer.proofs.Putting.{sound_is}
use Rattle.score_writer.proofs.file.beats_good.Goals as goal

pub returns : goal.returns
returns c =
    let t = c.tempo_map.result in
    let e = c.tempo_map.ensures in
    c.is_ok.ensures.value
    ∙ ap is_ok (finding t.nums.now t.dens.now t.tempos.now c.test.result c.test.ensures)
    ∙ sound_is t.nums.now t.dens.now t.tempos.now t.parallel.even_dens t.parallel.even_tempos (omega arith)
    ∙ rw (e.nums, e.dens) refl
