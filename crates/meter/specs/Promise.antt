-- What is promised beyond each call's equation: what the count is for a score that fits, in plain sums (no walk, no saturation and no search stands in these definitions), and bounds
-- within which a score fits.
use Rattle.std.specs.Prelude.{Bool, true, false, not, ◌≡◌, List, ℕ, ◌≤◌, ◌%◌, length, Option, Result, Ok}
use Rattle.beats.specs.declared.Beat.{Beat}
use Rattle.beats.specs.Beats.{is_beat}
use Rattle.beats.specs.Sums.{below_beat}
use Rattle.meter.specs.declared.MeterPoint.{MeterPoint}
use Rattle.numbers.specs.declared.refusal.Refusal.{Refusal}
use Rattle.meter.specs.Meters.{points_of}
use Rattle.meter.specs.Starts.{exact_start}
use Rattle.meter.specs.Counts.{Least}
use Rattle.meter.specs.Fits.{sound_map, forward_pickup, last_bar, Fits, numerators_up_to, small_pickup}
use Rattle.meter.specs.Answers.{count_answer}
use Rattle.numbers.specs.Refusals.{read}

module _ (map : List MeterPoint) (default : ℕ) (pickup : Option Beat) (beat : Beat) where
  -- the lengths of the bars before this one add up to the beat or more
  abbrev pub arrives : ℕ → Bool
  arrives bar = not (below_beat (exact_start map default pickup bar) beat)

  -- the first bar that starts at or after the beat, where bar 2^31 does; and 2^32 - 1 where it starts before the beat
  pub record FirstBar (bars : ℕ) : Type 0 where
    pub first : arrives last_bar ≡ true → Least arrives bars
    pub past : arrives last_bar ≡ false → bars ≡ 4294967295

-- for the words of every score that fits and every beat, the call answers by this bar, and by nothing else
abbrev pub CountPromise : Type 0
CountPromise =
    (words : List ℕ) (default : ℕ) (pickup : Option Beat) (beat : Beat)
    → length words % 3 ≡ 0
    → Fits (points_of words) default pickup
    → is_beat beat ≡ true
    → (answer : Result ℕ Refusal)
    → read answer ≡ count_answer words default pickup beat
    → (bars : ℕ) × ((answer ≡ Ok bars) × FirstBar (points_of words) default pickup beat bars)

-- numerators and default at most 4,096, and a pickup of at most 2^45 with a denominator of at most 64: of a map without problems and a pickup that is not below 0, such a score fits
abbrev pub BoundsPromise : Type 0
BoundsPromise =
    (map : List MeterPoint) (default : ℕ) (pickup : Option Beat)
    → sound_map map ≡ true
    → forward_pickup pickup ≡ true
    → numerators_up_to 4096 map ≡ true
    → default ≤ 4096
    → small_pickup pickup ≡ true
    → Fits map default pickup
