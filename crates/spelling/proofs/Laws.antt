-- What crates above may use of words.

-- the digit that a byte is, and a number digit by digit
pub use Rattle.spelling.proofs.Reading.{digit_0, digit_a, none_left}
pub use Rattle.spelling.proofs.Back.{and_digit}
-- reading what `text` writes gives it back
pub use Rattle.spelling.proofs.Back.{decimal_long, all_back, number_back, signed_back, beat_back}
-- a tempo by the number that its digits are
pub use Rattle.spelling.proofs.Back.{whole_tempo, point_tempo_lem, bits_tempo_lem}
-- a decimal tempo is the nearest float
pub use Rattle.spelling.proofs.Decimals.{decimal_nearest}
-- the error of a number that is missing
pub use Rattle.spelling.proofs.Ratios.{missing}
