-- What crates above may use of sheets.

-- one byte more than the longest score file is enough of an input
pub use Rattle.sheet_text.proofs.Files.{read_enough}
