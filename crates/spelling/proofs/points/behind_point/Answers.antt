-- By how many bytes there are, and by what the digits said.
use Rattle.std.proofs.Common.{Some, sym, ap, ◌∙◌, arith}
use Rattle.spelling.specs.Words.{tempo_by}
use Rattle.spelling.proofs.Reading.{most}
use Rattle.spelling.proofs.Tempos.{no_places, many_places, some_places}
use Rattle.spelling.proofs.points.behind_point.Goals as goal
use Rattle.spelling.proofs.points.behind_point.Goals.{then-places-eq0-via-then-places-eq0, then-places-eq0-via-else-places-eq0+then-places-gt10}

pub returns-then-places-eq0 : goal.returns-then-places-eq0
returns-then-places-eq0 c =
    elim c.then-places-eq0.branch [
      | then-places-eq0-via-then-places-eq0 w ↦ no_places _ _ w.if-places-eq0.true
      | then-places-eq0-via-else-places-eq0+then-places-gt10 w ↦ many_places _ _ w.if-places-gt10.true
    ]

pub returns-in_err-n : goal.returns-in_err-n
returns-in_err-n c =
    c.from_residual.ensures ∙ ap (tempo_by _) (sym c.in_err-n.was ∙ c.behind.ensures) ∙ some_places _ _ c.if-places-eq0.false c.if-places-gt10.false

pub overflow_cast-n : goal.overflow_cast-n
overflow_cast-n c = omega (arith, most _ _ _ _ _ (sym c.in_ok-n.was ∙ c.behind.ensures))

pub returns : goal.returns
returns c =
    ap Some c.over_ten.ensures ∙ ap (tempo_by _) (sym c.in_ok-n.was ∙ c.behind.ensures)
    ∙ some_places _ _ c.if-places-eq0.false c.if-places-gt10.false
