-- One question after the other, as the definition asks them, of lists that are even.
use Rattle.std.proofs.Common.{◌∙◌, sym}
use borrow.Author.Tests.{eq-eqb, le-leb, lt-leb}
use Rattle.tempo.specs.Answers.{map_test}
use Rattle.tempo.proofs.map.TempoMap.test.Goals as goal

pub returns-then-len-gt65536 : goal.returns-then-len-gt65536
unfolding map_test
returns-then-len-gt65536 c =
    let even = c.args.self.now.parallel in
    rw (eq-eqb _ _ even.even_dens, eq-eqb _ _ even.even_tempos, ← c.len.ensures, lt-leb _ 65536 c.if-len-gt65536.true)

pub returns-then-not-all_beats : goal.returns-then-not-all_beats
unfolding map_test
returns-then-not-all_beats c =
    let even = c.args.self.now.parallel in
    rw (eq-eqb _ _ even.even_dens, eq-eqb _ _ even.even_tempos, ← c.len.ensures, le-leb _ _ c.if-len-gt65536.false, sym c.all_beats.ensures ∙ c.if-not-all_beats.true)

pub returns : goal.returns
unfolding map_test
returns c =
    let even = c.args.self.now.parallel in
    rw (eq-eqb _ _ even.even_dens, eq-eqb _ _ even.even_tempos, ← c.len.ensures, le-leb _ _ c.if-len-gt65536.false, sym c.all_beats.ensures ∙ c.if-not-all_beats.false)
