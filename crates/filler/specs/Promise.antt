-- What is promised of filled lines: for a score that fits and a tempo map without problems whose numerators are at most 2^53, none is less than the one before.
use Rattle.std.specs.Prelude.{Bool, true, ◌&&◌, ◌≡◌, List, [], ◌∷◌, ℕ, leb, ℤ, pos}
use Rattle.std.specs.Int.Signed.{le_z}
use Rattle.numbers.specs.Answers.{accepted}
use Rattle.meter.specs.Meters.{points_of}
use Rattle.meter.specs.Fits.{Fits}
use Rattle.problems.specs.Problems.{Listed, listed, tempo_problems}
use Rattle.transport.specs.declared.Transport.{Transport}
use Rattle.lines.specs.Lines.{lines_answer}
use Rattle.filler.specs.Fills.{fill_answer, fill_after}

-- numerators of at most 2^53, up to which a float holds each number exactly. (A denominator is a number of 32 bits: nothing more is asked of it.)
unfoldable pub all_small : List Listed → Bool
all_small [] = true
all_small (point ∷ rest) = (le_z point.at.num (pos 9007199254740992) && leb point.at.den 4294967295) && all_small rest

-- a score that fits, with a tempo map that has no problems and no numerator above 2^53
pub record InOrder (t : Transport) (words : List ℕ) (nums : List ℤ) (dens tempos : List ℕ) : Type 0 where
  pub fits : Fits (points_of words) t.beats_per_bar t.pickup
  pub sound : tempo_problems (listed nums dens tempos) ≡ []
  pub small : all_small (listed nums dens tempos) ≡ true

-- the lines of such a score, filled by the call, are refused neither by 11 nor by 4
abbrev pub LinesPromise : Type 0
LinesPromise =
    (t : Transport) (words : List ℕ) (nums : List ℤ) (dens tempos out : List ℕ)
    → fill_answer t words nums dens tempos out ≡ accepted tt
    → InOrder t words nums dens tempos
    → lines_answer (fill_after t words nums dens tempos out) ≡ accepted tt
