-- Maps whose seconds never fall: the beats of the points go up from 0, and the tempos are finite. `proofs/Rising` has the law.
use Rattle.std.specs.Prelude.{List, [], ◌∷◌, T, Float}
use Rattle.std.specs.Float.Ieee.{le}
use Rattle.std.specs.Float.Ieee.Positive.{positive}
use Rattle.std.specs.Float.Ieee.Scale.{finite}
use Rattle.rounding.specs.Floats.{float0}
use Rattle.tempo.specs.Tempos.{TempoPoint}

-- a point that may follow the beat `from`
pub record Follows (from : Float) (point : TempoPoint) : Type 0 where
  -- its beat is a number, and not before `from`
  pub number : T (finite point.at)
  pub later : T (le from point.at)
  -- its tempo is finite and above 0. (The tempos of a map are at least 1, so this asks only that it is not an infinity.)
  pub tempo : T (positive point.tempo)

-- each point may follow the one before it, and the first the beat `from`
abbrev pub RisingFrom : Float → List TempoPoint → Type 0
RisingFrom from [] = Unit
RisingFrom from (point ∷ rest) = Follows from point × RisingFrom point.at rest

abbrev pub RisingMap : List TempoPoint → Type 0
RisingMap points = RisingFrom float0 points
