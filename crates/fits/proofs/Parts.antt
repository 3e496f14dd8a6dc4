-- The three parts of the decision, each looked at only where those before it pass.
use Rattle.std.proofs.Common.{Option}
use mathlib.Core.Path.{◌≡◌, sym, ap, ◌∙◌}
use mathlib.Core.Bool.{Bool, true, false, ◌&&◌}
use mathlib.Core.List.{List}
use Prim.Native.Nat.{ℕ}
use Rattle.beats.specs.declared.Beat.{Beat}
use Rattle.meter.specs.declared.MeterPoint.{MeterPoint}
use Rattle.meter.specs.Fits.{sound_map, forward_pickup}
use Rattle.fits.specs.Decision.{walk_fits, fits_bool}

-- ---- the parts

module _ (map : List MeterPoint) (default : ℕ) (pickup : Option Beat) where
  pub unsound_map : sound_map map ≡ false → false ≡ fits_bool map default pickup
  unfolding fits_bool
  unsound_map e = sym (ap (λ (t : Bool). t && (forward_pickup pickup && walk_fits map default pickup)) e)

  module _ (s : sound_map map ≡ true) where
    pub backward : forward_pickup pickup ≡ false → false ≡ fits_bool map default pickup
    unfolding fits_bool
    backward e = sym (λ i. s i && (e i && walk_fits map default pickup))

    pub by_walk : (r : Bool) → forward_pickup pickup ≡ true → r ≡ walk_fits map default pickup → r ≡ fits_bool map default pickup
    unfolding fits_bool
    by_walk r e q = q ∙ sym (λ i. s i && (e i && walk_fits map default pickup))
