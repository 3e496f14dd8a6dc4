-- What crates above may use of the drummer's question: they go by `count_text`.

-- the program reads one byte more than the longest score file, which is enough
pub use Rattle.count_text.proofs.Files.{read_enough}
