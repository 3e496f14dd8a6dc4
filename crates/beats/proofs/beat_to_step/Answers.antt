-- Past the test for 1 the beat is in lowest terms, so the grid's remainder alone says whether it lies on a step.
use Rattle.std.proofs.Common.{◌≡◌, ℕ, ◌*◌, ◌/◌, min, max, Bool, true, false, cond, [], nat_abs, refl, sym, ap, ◌∙◌, arith, w64, SFits, rules}
use mir.ValLaws.{to_z-of_z}
use Rattle.numbers.specs.Answers.{accepted, refused}
use Rattle.numbers.specs.Signs.{is_neg}
use Rattle.beats.specs.declared.Beat.{Beat}
use Rattle.beats.specs.Beats.{is_beat, if_beat}
use Rattle.beats.specs.Steps.{on_grid, step_answer}
use Rattle.beats.proofs.Refusing.{beat_lowest}
use Rattle.beats.proofs.Grid.{between, on, before_zero, from_zero}
use Rattle.beats.proofs.beat_to_step.Goals as goal

-- the beat behind the test is the one before it
passed : (fine : Bool) (beat after : Beat) → accepted after ≡ cond fine (accepted beat) (refused 1 []) → (fine ≡ true) × (beat ≡ after)
passed true beat after e = (refl, cc)
passed false beat after e = let z : ⊥ = cc in absurd z

module _ (beat after : Beat) (e : accepted after ≡ if_beat beat (accepted beat)) where
  fine : is_beat after ≡ true
  fine = let t = passed (is_beat beat) beat after e in ap is_beat (sym t.1) ∙ t.0

  -- its step is the call's answer
  stands : (steps grid : ℕ) → grid ≡ max steps 1 → on_grid after.num after.den grid ≡ step_answer beat steps
  stands steps grid g =
      let t = passed (is_beat beat) beat after e in
      (λ i. on_grid (sym t.1 i).num (sym t.1 i).den (g i)) ∙ sym (ap (λ (f : Bool). cond f (on_grid beat.num beat.den (max steps 1)) (refused 1 [])) t.0)

pub returns-then-grid-den-ne0 : goal.returns-then-grid-den-ne0
returns-then-grid-den-ne0 c =
    let beat = c.in_ok-num.field-0 in
    between beat.num beat.den c.positive-grid.result (omega (arith, c.positive-grid.ensures)) (beat_lowest beat (fine c.args.beat beat c.in_ok-num.ensures)) c.if-grid-den-ne0.true
    ∙ stands c.args.beat beat c.in_ok-num.ensures c.args.steps _ c.positive-grid.ensures

pub returns-then-negative : goal.returns-then-negative
returns-then-negative c =
    let beat = c.in_ok-num.field-0 in
    let fits : SFits w64 beat.num = search rules in
    ap accepted (before_zero beat.num beat.den c.positive-grid.result (sym (c.negative.ensures ∙ ap is_neg (to_z-of_z w64 beat.num fits)) ∙ c.if-negative.true))
    ∙ on beat.num beat.den c.positive-grid.result c.if-grid-den-ne0.false
    ∙ stands c.args.beat beat c.in_ok-num.ensures c.args.steps _ c.positive-grid.ensures

pub returns : goal.returns
returns c =
    let beat = c.in_ok-num.field-0 in
    let fits : SFits w64 beat.num = search rules in
    let size = c.magnitude.ensures ∙ ap nat_abs (to_z-of_z w64 beat.num fits) in
    let product = c.saturating_mul-exact.ensures ∙ ap (λ (n : ℕ). min (n * (c.positive-grid.result / beat.den)) 18446744073709551615) size in
    ap accepted (c.to_u32.ensures ∙ ap (λ (n : ℕ). min n 4294967295) product
    ∙ from_zero beat.num beat.den c.positive-grid.result c.if-grid-den-ne0.false (sym (c.negative.ensures ∙ ap is_neg (to_z-of_z w64 beat.num fits)) ∙ c.if-negative.false))
    ∙ on beat.num beat.den c.positive-grid.result c.if-grid-den-ne0.false
    ∙ stands c.args.beat beat c.in_ok-num.ensures c.args.steps _ c.positive-grid.ensures
