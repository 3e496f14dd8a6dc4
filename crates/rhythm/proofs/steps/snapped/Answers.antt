-- Adding half the grid and cutting goes to the nearest multiple.
use Rattle.std.proofs.Common.{◌≡◌, ℕ, ◌+◌, ◌*◌, ◌/◌, min, max, ap, ◌∙◌, arith, rules}
use Rattle.rhythm.specs.Values.{most_step}
use Rattle.rhythm.proofs.Sums.{snap}
use Rattle.rhythm.proofs.steps.snapped.Goals as goal

pub returns : goal.returns
returns c =
    let grid = max c.args.grid 1 in
    let e : c.max-g.result ≡ grid = search rules in
    c.to_u32.ensures
    ∙ ap (λ (g : ℕ). min ((c.args.step + g / 2) / g * g) most_step) e
    ∙ ap (λ (q : ℕ). min (q * grid) most_step) (snap c.args.step grid (omega arith))
