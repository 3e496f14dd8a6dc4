-- What crates above may use of bar lines.

-- ascending lines, one at a time
pub use Rattle.lines.proofs.Order.{up_step}
-- lines that the test passes
pub use Rattle.lines.proofs.Ranges.{fine_lines}
-- a range line by line; a place, without the first line
pub use Rattle.lines.proofs.Ranges.{line_in, line_before, line_past, tail_splits, tail_none}
-- where a place lies of which nothing is known
pub use Rattle.lines.proofs.Searching.{anywhere}
