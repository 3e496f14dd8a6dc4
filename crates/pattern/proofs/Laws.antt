-- What crates above may use of this one.

-- a call's contract has one answer and one output
pub use Rattle.pattern.proofs.Readings.{one_outcome}
