-- What the call promises: it answers `Ok true` exactly where the score fits, in the words of document 01, for every bar from 0 to 2^31.
use Rattle.std.specs.Prelude.{true, ◌≡◌, List, ℕ, ◌%◌, length, Option, Result, Ok, Bool}
use Rattle.numbers.specs.declared.refusal.Refusal.{Refusal}
use Rattle.numbers.specs.Refusals.{read}
use Rattle.beats.specs.declared.Beat.{Beat}
use Rattle.meter.specs.declared.MeterPoint.{MeterPoint}
use Rattle.meter.specs.Meters.{points_of}
use Rattle.meter.specs.Fits.{Fits}
use Rattle.fits.specs.Decision.{fits_bool}
use Rattle.fits.specs.Answers.{fits_answer}

-- the decision is yes exactly for a score that fits
abbrev pub Exact : Type 0
Exact =
    (map : List MeterPoint) (default : ℕ) (pickup : Option Beat)
    → (fits_bool map default pickup ≡ true → Fits map default pickup) × (Fits map default pickup → fits_bool map default pickup ≡ true)

-- the same of the call: a yes is right for all words and pickups, and given of all words that are three a point
abbrev pub FitsPromise : Type 0
FitsPromise =
    (words : List ℕ) (default : ℕ) (pickup : Option Beat) (answer : Result Bool Refusal)
    → read answer ≡ fits_answer words default pickup
    → (answer ≡ Ok true → Fits (points_of words) default pickup) × (length words % 3 ≡ 0 → Fits (points_of words) default pickup → answer ≡ Ok true)
