-- The parts' contracts, one inside the other.
use Rattle.std.proofs.Common.{◌≡◌, Result, Ok, Err, refl, ap, sym, ◌∙◌}
use Rattle.std.specs.Result.{is_ok}
use Rattle.numbers.specs.Answers.{accepted, is_accepted}
use Rattle.numbers.specs.declared.refusal.Refusal.{Refusal}
use Rattle.numbers.specs.Refusals.{read}
use Rattle.beats.specs.Beats.{zero_beat}
use Rattle.beats.specs.Sums.{add_beats}
use Rattle.meter.specs.Meters.{points_of, fallback, bar_len}
use Rattle.fits.specs.Decision.{walked, walk_fits}
use Rattle.fits.proofs.Walking.{walked_refused}
use Rattle.fits.proofs.walk.passes.Goals as goal

ok_accepted : {A : Type 0} (r : Result A Refusal) → is_ok r ≡ is_accepted (read r)
ok_accepted (Ok a) = refl
ok_accepted (Err why) = refl

pub returns-in-Ok : goal.returns-in-Ok
unfolding walk_fits
returns-in-Ok c =
    let map = points_of c.args.map.now.words.now in
    let one : accepted c.in-Ok.one ≡ add_beats zero_beat (bar_len map c.args.map.now.default c.args.map.now.pickup 0) = c.in-Ok.ensures ∙ (λ i. add_beats (c.zero-zero.ensures i) (c.length.ensures i)) in
    c.is_ok.ensures.value
    ∙ ok_accepted c.last_start.result
    ∙ ap is_accepted (c.last_start.ensures ∙ ap (walked map 1 (fallback c.args.map.now.default)) one)

pub returns-in-Err : goal.returns-in-Err
unfolding walk_fits
returns-in-Err c =
    let map = points_of c.args.map.now.words.now in
    ap is_accepted (sym (walked_refused map 1 (fallback c.args.map.now.default) _ _)
    ∙ ap (walked map 1 (fallback c.args.map.now.default)) (c.in-Err.ensures ∙ (λ i. add_beats (c.zero-zero.ensures i) (c.length.ensures i))))
