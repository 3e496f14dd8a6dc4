-- The place of a frame among ascending lines.
use Rattle.std.specs.Prelude.{List, ℕ, ◌+◌, ◌-◌, ◌*◌, ◌/◌, ◌≤◌, ◌<◌, length, get_or}

-- the lines before the place are below the frame, and the others are not
pub record Splits (frame : ℕ) (lines : List ℕ) (place : ℕ) : Type 0 where
  pub within : place ≤ length lines
  pub below : (k : ℕ) → k < place → get_or lines k 0 < frame
  pub from : (k : ℕ) → place ≤ k → k < length lines → frame ≤ get_or lines k 0

-- the place lies from `low` to `high`: the lines before `low` are below the frame, and those from `high` on are not
pub record Bracket (frame : ℕ) (lines : List ℕ) (low high : ℕ) : Type 0 where
  pub between : low ≤ high
  pub within : high ≤ length lines
  pub below : (k : ℕ) → k < low → get_or lines k 0 < frame
  pub from : (k : ℕ) → high ≤ k → k < length lines → frame ≤ get_or lines k 0

-- how many of so many lines are still in question behind three looks, which cut them into four parts
abbrev pub after_cut : ℕ → ℕ
after_cut size = size - 3 * ((size + 1) / 4)
