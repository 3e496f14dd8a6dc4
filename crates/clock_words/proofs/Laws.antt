-- What crates above may use of a clock's words. They unfold neither the reading nor the writing.

-- words that are no clock are unsound
pub use Rattle.clock_words.proofs.Places.{no_clock_unsound}
-- a clock that is placed is read as the transport where it was placed
pub use Rattle.clock_words.proofs.Places.{words_of, reads_placed}
-- what holds of any eleven words, one by one, holds of a list of eleven; of a clock that is placed twice the last place counts; it is as long as before
pub use Rattle.clock_words.proofs.Places.{by_words_lem, placed_twice, placed_long}
