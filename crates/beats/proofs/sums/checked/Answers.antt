-- The two tests are those of the definition; past them the number is an i64, so stopping it changes nothing.
use Rattle.std.proofs.Common.{ℤ, sym, ap, ◌∙◌, w64, rules}
use mir.ValLaws.{to_z-of_z}
use Rattle.numbers.specs.Exacts.{value_of}
use Rattle.beats.specs.Beats.{new_beat}
use Rattle.beats.proofs.Fitted.{too_large, too_fine, done}
use Rattle.beats.proofs.sums.checked.Goals as goal

pub returns-then-not-in_i64 : goal.returns-then-not-in_i64
returns-then-not-in_i64 c = too_large (value_of c.args.num) c.args.den (sym c.in_i64.ensures ∙ c.if-not-in_i64.true)

pub returns-then-den-gt4294967295 : goal.returns-then-den-gt4294967295
returns-then-den-gt4294967295 c = too_fine (value_of c.args.num) c.args.den c.if-den-gt4294967295.true

pub returns : goal.returns
returns c =
    let made = c.new.ensures ∙ ap (λ (z : ℤ). new_beat z c.args.den) (to_z-of_z w64 c.to_i64.result (search rules) ∙ c.to_i64.ensures) in
    done (value_of c.args.num) c.args.den c.new.result (sym c.in_i64.ensures ∙ c.if-not-in_i64.false) c.if-den-gt4294967295.false made
