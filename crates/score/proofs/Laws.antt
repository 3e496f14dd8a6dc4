-- What crates above may use of the score file. They go by `is_score`, by what the file says, and by the fronts of the lent lists.

-- an answer tells whether the bytes are a score file, and what it says
pub use Rattle.score.proofs.Accepted.{bad_file, good_file, says}
-- the counts have limits, and the points are the fronts of the lent lists
pub use Rattle.score.proofs.Accepted.{few_meters, few_tempos, meter_front, nums_front, dens_front, bits_front}
-- a score that was read has these limits, and a pickup that is absent or a beat; what is made of it is made of what the file says
pub use Rattle.score.proofs.Accepted.{meters_few, tempos_few, pickup_sound, made_of_file}
-- and so has the length
pub use Rattle.score.proofs.Accepted.{longest}
-- one byte more than the longest settles what a program makes of an input
pub use Rattle.score.proofs.Accepted.{read_enough}
