-- When a score fits, as document 01 says, and bounds that suffice for it.
use Rattle.std.specs.Prelude.{Bool, true, ◌&&◌, ◌≡◌, List, [], ◌∷◌, ℕ, suc, ◌≤◌, ◌*◌, ◌%◌, ◌^◌, ltb, leb, eqb, length, pos, None, Option, Some}
use Rattle.std.specs.Int.Signed.{le_z}
use Rattle.beats.specs.declared.Beat.{Beat}
use Rattle.numbers.specs.Answers.{is_accepted}
use Rattle.beats.specs.Beats.{is_beat}
use Rattle.meter.specs.declared.MeterPoint.{MeterPoint}
use Rattle.meter.specs.Starts.{checked_start}

-- ---- a map without problems

-- a power of two up to 64
abbrev pub good_den : ℕ → Bool
good_den den = ltb 0 den && eqb (64 % den) 0

-- each bar at least `low` and above the one before it, no numerator 0, good denominators
unfoldable pub sound_from : ℕ → List MeterPoint → Bool
sound_from low [] = true
sound_from low (point ∷ rest) = leb low point.bar && (ltb 0 point.numerator && (good_den point.denominator && sound_from (suc point.bar) rest))

-- the first bar is 0
abbrev pub first_zero : List MeterPoint → Bool
first_zero [] = true
first_zero (point ∷ rest) = eqb point.bar 0

-- at most 256 points, the first at bar 0, and each of them sound
unfoldable pub sound_map : List MeterPoint → Bool
sound_map map = leb (length map) 256 && (first_zero map && sound_from 0 map)

-- ---- fits

-- absent, or a beat that is not below 0
abbrev pub forward_pickup : Option Beat → Bool
forward_pickup None = true
forward_pickup (Some beat) = is_beat beat && le_z (pos 0) beat.num

-- the last bar that a walk has to reach, 2^31
abbrev pub last_bar : ℕ
last_bar = 2147483648

-- the map has no problems, the pickup is absent or at least 0, and no addition or scaling of the walk is refused for any bar from 0 to 2^31
pub record Fits (map : List MeterPoint) (default : ℕ) (pickup : Option Beat) : Type 0 where
  pub sound : sound_map map ≡ true
  pub forward : forward_pickup pickup ≡ true
  pub walks : (bar : ℕ) → bar ≤ last_bar → is_accepted (checked_start map default pickup bar) ≡ true

-- ---- what suffices for the last of these

-- no numerator is above the limit
unfoldable pub numerators_up_to : ℕ → List MeterPoint → Bool
numerators_up_to limit [] = true
numerators_up_to limit (point ∷ rest) = leb point.numerator limit && numerators_up_to limit rest

-- absent, or at most 2^45 with a denominator of at most 64
abbrev pub small_pickup : Option Beat → Bool
small_pickup None = true
small_pickup (Some beat) = leb beat.den 64 && le_z beat.num (pos (2 ^ 45 * beat.den))
