-- Every case of the table holds, by computing.
use mathlib.Core.Path.{refl}
use Rattle.numbers.specs.Answers.{Agree}
use Rattle.numbers.specs.Divisor.{gcd_of, remainders}
use Rattle.beats.specs.Beats.{new_beat, lowest}
use Rattle.beats.specs.Sums.{fitted}
use Rattle.meter.specs.Meters.{points_of, later, last_at, len_of, bar_len}
use Rattle.meter.specs.Starts.{checked_bars}
use Rattle.meter.specs.Fits.{sound_from, sound_map}
use Rattle.fits.specs.Decision.{segment, reach, walked, walk_fits, fits_bool}
use Rattle.fits.specs.Cases.{case_answer, cases}

pub holds : Agree case_answer cases
unfolding new_beat lowest gcd_of remainders fitted points_of later last_at len_of bar_len checked_bars sound_from sound_map segment reach walked walk_fits fits_bool cases
holds = refl
