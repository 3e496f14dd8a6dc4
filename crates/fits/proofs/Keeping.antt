-- The call keeps its promise: the tests before the decision refuse no score that fits.
use mathlib.Core.Path.{◌≡◌, sym, ap, ◌∙◌}
use mathlib.Core.Bool.{Bool, true, false, cond}
use mathlib.Core.List.{[]}
use Prim.Native.Nat.{ℕ, ◌*◌, ◌%◌}
use native.Mathlib.Omega.{arith}
use lib.Dec.{leb, eqb}
use lib.ListN.{length}
use Rattle.std.proofs.Common.{Ok}
use Rattle.numbers.specs.Answers.{accepted, refused}
use Rattle.numbers.specs.Refusals.{read}
use Rattle.numbers.proofs.Laws.{results_apart}
use Rattle.meter.specs.Meters.{points_of, sound_pickup}
use Rattle.meter.proofs.Laws.{points_length, points_few, forward_sound, passed}
use Rattle.fits.specs.Decision.{fits_bool}
use Rattle.fits.specs.Promise.{Exact, FitsPromise}
use Rattle.fits.proofs.Exactly.{decided, complete}

pub fits_exactly : Exact
fits_exactly map default pickup = (decided map default pickup, complete map default pickup)

-- an accepted answer stood behind all tests
behind : (even few sound fine : Bool) → accepted true ≡ cond even (cond few (cond sound (accepted fine) (refused 1 [])) (refused 4 [])) (refused 3 []) → fine ≡ true
behind true true true fine e = cc
behind true true false fine e = let z : ◌≡◌ {A = ℕ} 0 1 = cc in cc
behind true false sound fine e = let z : ◌≡◌ {A = ℕ} 0 1 = cc in cc
behind false few sound fine e = let z : ◌≡◌ {A = ℕ} 0 1 = cc in cc

pub fits_keeps : FitsPromise
fits_keeps words default pickup answer e = (
  (λ q.
      decided (points_of words) default pickup
      (behind (eqb (length words % 3) 0) (leb (length words) (65536 * 3)) (sound_pickup pickup) (fits_bool (points_of words) default pickup) (sym (ap read q) ∙ e))),
  (λ even fits.
      results_apart answer (Ok true) (e
      ∙ sym (ap accepted (sym (complete (points_of words) default pickup fits))
      ∙ passed words pickup (accepted (fits_bool (points_of words) default pickup)) even
      (omega (arith, points_length words, points_few (points_of words) fits.sound)) (forward_sound pickup fits.forward)))),
)
