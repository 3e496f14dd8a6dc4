-- What the cues of a run are, by document 01's own words: exactly the bar lines sounded, in playing order. proofs/Exactly.antt proves it of `cues`.
use Rattle.std.specs.Prelude.{◌≡◌, true, false, ◌↔◌, ◌⊎◌, ℕ, ◌<◌, length, get_or}
use mathlib.Core.List.{List, [], ◌∷◌, Memᴰ}
use Rattle.transport.specs.declared.Transport.{Transport}
use Rattle.transport.specs.Transports.{playing}
use Rattle.transport.specs.Advances.{advanced}
use Rattle.cues.specs.Sounding.{Cue, cues}

abbrev pub Among : Cue → List Cue → Type 0
Among cue all = Memᴰ cue all

-- ---- exactly the bar lines sounded

-- the line at this place sounds at this time of a run: the transport plays, and an advance by that time from the beginning has not finished and stands on it
pub record Sounds (lines : List ℕ) (t : Transport) (frames time place : ℕ) : Type 0 where
  pub in_run : time < frames
  pub in_list : place < length lines
  pub plays : playing t.state ≡ true
  pub goes_on : (advanced t time).moves.finished ≡ false
  pub stands_on : (advanced t time).transport.position ≡ get_or lines place 0

-- of any transport and any lines
abbrev pub Exactly : Type 0
Exactly = (lines : List ℕ) (t : Transport) (frames time place : ℕ) → Among (time, place) (cues lines t frames) ↔ Sounds lines t frames time place

-- ---- in playing order

-- at an earlier time, or at the same time with a lower place
abbrev pub Before : Cue → Cue → Type 0
Before one other = (one.0 < other.0) ⊎ ((one.0 ≡ other.0) × (one.1 < other.1))

-- each before all that follow it; so no cue is there twice
abbrev pub InOrder : List Cue → Type 0
InOrder [] = Unit
InOrder (cue ∷ rest) = ((other : Cue) → Among other rest → Before cue other) × InOrder rest

abbrev pub Ordered : Type 0
Ordered = (lines : List ℕ) (t : Transport) (frames : ℕ) → InOrder (cues lines t frames)
