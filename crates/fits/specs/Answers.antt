-- The call: 3, 4 and 1 are tested in this order.
use Rattle.std.specs.Prelude.{Bool, List, ℕ, Option}
use Rattle.beats.specs.declared.Beat.{Beat}
use Rattle.numbers.specs.Answers.{Answer, accepted}
use Rattle.meter.specs.Meters.{points_of}
use Rattle.meter.specs.Answers.{if_map, if_pickup}
use Rattle.fits.specs.Decision.{fits_bool}

abbrev pub fits_answer : List ℕ → ℕ → Option Beat → Answer Bool
fits_answer words default pickup = if_map words (if_pickup pickup (accepted (fits_bool (points_of words) default pickup)))
