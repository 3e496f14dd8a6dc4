-- What crates above may use of texts. They go by the texts' names and lengths.

-- a text put has its length, and texts put one behind another are one
pub use Rattle.text.proofs.Puts.{same, counted, one, nothing, behind, then, retext}
-- room on a page, and texts written on it one behind another
pub use Rattle.text.proofs.Pages.{room_kept, room_first, room_rest, room_as, append_behind, append_then, append_nothing, append_as, append_front}
-- how long a text is at most
pub use Rattle.text.proofs.Parts.{digits64, digits32, signed_short, beat_short}
-- a contract of a text put or written has one answer
pub use Rattle.text.proofs.Readings.{one_put, one_append}
