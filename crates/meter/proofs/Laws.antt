-- What crates above may use of bars. They go by the starts, the counts and the points, and unfold neither the walks nor the search.

-- the points of flat words, one at a time, and how many they are
pub use Rattle.meter.proofs.Scanning.{left, points_step, points_end, points_length}
-- a map without problems ascends
pub use Rattle.meter.proofs.Passing.{from_ascends}
-- and is short; a pickup that is not below 0 is sound
pub use Rattle.meter.proofs.Fitting.{points_few, forward_sound}
-- one pass over a map whose bars ascend: what is left of it, with the meter at a bar, says what the whole map says from there on
pub use Rattle.meter.proofs.Passing.{Rest, rest_on, rest_next, rest_meter}
-- the walk by segments, a turn at a time, for crates that carry it from bar to bar
pub use Rattle.meter.proofs.Walking.{nearer_above, nearer_else, later_in, later_out, len_rest, segments_over, segments_turn, one, start_zero, start_segments}
-- a start whose walk is not refused is the sum of the lengths before it; starts never fall where the pickup is not below 0
pub use Rattle.meter.proofs.Exactness.{exact_beat, start_exact, starts_rise}
-- the walk that is refused as soon as one of its operations is, a step at a time, and the lengths that it starts with
pub use Rattle.meter.proofs.Walking.{checked_end, checked_more}
pub use Rattle.meter.proofs.Exactness.{then_accepted, forward_beat, forward_len}
-- each start of a score that fits is that sum, within the limits of a beat, and the count is the first bar that starts at or after the beat
pub use Rattle.meter.proofs.Counting.{Rising}
pub use Rattle.meter.proofs.Fitting.{fit_exact, fit_stored, fit_rising, fit_least, fit_past, fit_first, count_keeps}
-- a bar of a meter without problems lasts a number of sixteenths
pub use Rattle.meter.proofs.Bounds.{sixteenths, good_len}
-- bounds that suffice for a score to fit
pub use Rattle.meter.proofs.Bounds.{suffices}
-- past the tests of a map and of a pickup stands the answer
pub use Rattle.meter.proofs.Fitting.{passed}
