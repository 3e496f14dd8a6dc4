-- What crates above may use of the text form: they go by `form_text`.

-- the program reads one byte more than the longest score file, which is enough
pub use Rattle.form_text.proofs.Files.{read_enough}
-- reading the text of a tempo gives it back
pub use Rattle.form_text.proofs.Back.{tempo_back}
