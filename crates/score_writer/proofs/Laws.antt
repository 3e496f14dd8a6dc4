-- What crates above may use of the writer. They go by `file_of`, and unfold none of its parts.
use Rattle.score_writer.specs.Promise.{Promised}
use Rattle.score_writer.proofs.Back.{reads_back_lem}
use Rattle.score_writer.proofs.Lent.{accepted_reads_back}
use Rattle.score_writer.proofs.Again.{writes_again}
-- an answer tells whether a file was written, how long it is, and that the output has room for it
pub use Rattle.score_writer.proofs.Accepted.{WrittenFile, written_file, written_room}
-- how long a file is, by its points
pub use Rattle.score_writer.proofs.Putting.{file_length}

-- what is written is read back as it was given, and a file read and written again is the same
pub promised : Promised
promised = record { reads_back_lem = reads_back_lem; accepted_reads_back = accepted_reads_back; writes_again = writes_again }
