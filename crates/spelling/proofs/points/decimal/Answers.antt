-- By what the digits before the point said, and whether there is a point.
use Rattle.std.proofs.Common.{ℕ, suc, ◌+◌, drop, Option, Some, sym, ap, ◌∙◌, add-one, arith, length-take-le}
use Rattle.splits.specs.Splits.{other}
use Rattle.splits.proofs.Laws.{past_front, part_rest}
use Rattle.spelling.specs.Words.{tempo_by, behind_point}
use Rattle.spelling.proofs.Reading.{some_most}
use Rattle.spelling.proofs.Tempos.{pointed, with_point_lem, without_point, no_front}
use Rattle.spelling.proofs.points.decimal.Goals as goal

pub slice_bounds-some-end : goal.slice_bounds-some-end
slice_bounds-some-end c = sym (length-take-le _ _ c.until-point.ensures.2)

pub behind_point-requires : goal.behind_point-requires
behind_point-requires c = some_most _ _ _ (sym c.in_ok-front.was ∙ c.some.ensures)

pub overflow_cast-front : goal.overflow_cast-front
overflow_cast-front c = omega (arith, some_most _ _ _ (sym c.in_ok-front.was ∙ c.some.ensures))

pub returns-in_err-front : goal.returns-in_err-front
returns-in_err-front c =
    c.from_residual.ensures ∙ no_front _ _ (c.until-point.ensures.0 ∙ past_front (other 46) _) (sym c.in_err-front.was ∙ c.some.ensures)

pub returns-then-point-word : goal.returns-then-point-word
unfolding pointed
returns-then-point-word c =
    let front = sym c.in_ok-front.was ∙ c.some.ensures in
    c.behind_point.ensures
    ∙ ap (behind_point _) (part_rest (c.until-point.result + 1) c.args.word.now ∙ ap (λ (k : ℕ). drop k c.args.word.now) (add-one c.until-point.result))
    ∙ ap (λ (said : Option ℕ). pointed said (drop (suc c.until-point.result) c.args.word.now)) front
    ∙ with_point_lem c.args.word.now c.until-point.result (c.until-point.ensures.0 ∙ past_front (other 46) _) c.if-point-word.true

pub returns-else-point-word : goal.returns-else-point-word
returns-else-point-word c =
    ap Some c.over_ten.ensures ∙ ap (tempo_by 0) (sym c.in_ok-front.was ∙ c.some.ensures)
    ∙ without_point _ _ (c.until-point.ensures.0 ∙ past_front (other 46) _) c.if-point-word.false
