-- What crates above may use of this one.

-- a meter map has no problems exactly where it is sound
pub use Rattle.problems.proofs.Sound.{no_problems_sound, sound_no_problems}
-- a call has one answer and one output
pub use Rattle.problems.proofs.Readings.{one_outcome}
