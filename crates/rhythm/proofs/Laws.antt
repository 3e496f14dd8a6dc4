-- What crates above may use of this one.

-- a remainder is below its total, and differs from the number by whole totals
pub use Rattle.rhythm.proofs.Remainders.{laps, remainder_below, remainder_laps}
-- copies: how many notes they are, and that moving by no step changes nothing
pub use Rattle.rhythm.proofs.Repeats.{count_copies, later_zero}
-- rows of notes, and that the pulses one by one are the steps that euclidean's definition picks
pub use Rattle.rhythm.proofs.Even.{even_hits}
