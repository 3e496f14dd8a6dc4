-- What crates above may use of lines and words. They go by places and by the words between them.

-- lines and words from a place on
pub use Rattle.splits.proofs.Places.{no_lines, next_line, body_is, no_word, next_word, part_rest}
-- runs end within the text; a run byte by byte, and from the front on; the bytes before a mark
pub use Rattle.splits.proofs.Runs.{run_short, run_nil, run_append, past_front, at_mark, before_mark}
