-- The parts before and behind the slash, by what each of them says.
use Rattle.std.proofs.Common.{◌≡◌, ℤ, sym, refl, ap, ◌∙◌, w64, rules}
use mir.Val.{SFits}
use mir.ValLaws.{to_z-of_z}
use Rattle.std.proofs.lemmas.Result.{err_from_is_err_and}
use Rattle.spelling.specs.declared.BeatError.TheVariants.{NotNumber}
use Rattle.splits.specs.Splits.{other}
use Rattle.splits.proofs.Laws.{past_front}
use Rattle.spelling.specs.Words.{fraction_by}
use Rattle.spelling.proofs.Ratios.{missing, beat_is}
use Rattle.spelling.proofs.fractions.fraction.Goals as goal

pub returns-in_err-num : goal.returns-in_err-num
returns-in_err-num c =
    let p = err_from_is_err_and c.from_residual.result c.from_residual.ensures.1 in
    let why : c.in_err-num.field-0.0 ≡ NotNumber = missing _ _ _ c.in_err-num.ensures.ok_part c.in_err-num.ensures.value in
    rw (p.1, p.2, why) (beat_is _ _ (c.until-slash.ensures.0 ∙ past_front (other 47) _) _ _ (sym c.in_err-num.ensures.ok_part ∙ c.numerator.ensures) refl)

pub returns-in_err-den : goal.returns-in_err-den
returns-in_err-den c =
    let p = err_from_is_err_and c.from_residual-in_err-den.result c.from_residual-in_err-den.ensures.1 in
    let why : c.in_err-den.field-0.0 ≡ NotNumber = missing _ _ _ c.in_err-den.ensures.ok_part c.in_err-den.ensures.value in
    rw (p.1, p.2, why) (beat_is _ _ (c.until-slash.ensures.0 ∙ past_front (other 47) _) _ _ (sym c.in_ok-num.ensures.ok_part ∙ c.numerator.ensures) (sym c.in_err-den.ensures.ok_part ∙ c.denominator.ensures))

pub returns : goal.returns
returns c =
    let fits : SFits w64 c.in_ok-num.num = search rules in
    let same = to_z-of_z w64 c.in_ok-num.num fits in
    c.ratio.ensures
    ∙ ap (λ (z : ℤ). fraction_by z c.in_ok-den.den) same
    ∙ beat_is _ _ (c.until-slash.ensures.0 ∙ past_front (other 47) _) _ _ (sym c.in_ok-num.ensures.ok_part ∙ c.numerator.ensures) (sym c.in_ok-den.ensures.ok_part ∙ c.denominator.ensures)
