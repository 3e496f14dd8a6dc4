-- What crates above may use of the transport. They go by these laws and unfold neither `sound` nor `advanced`.

-- what a sound loop is, and where it folds a frame to
pub use Rattle.transport.proofs.Loops.{on_sound, fold_lt}
-- what a sound transport is
pub use Rattle.transport.proofs.Loops.{sound_position, sound_loop_lem}
-- what is moved or advanced is sound, and so a sound transport stays sound
pub use Rattle.transport.proofs.Sound.{moved_sound, advanced_sound, stays_sound}
-- one advance: where it comes to, what it keeps, and what is answered
pub use Rattle.transport.proofs.Advancing.{plays_on, stays_put, advanced_keeps, advanced_plays, advanced_low}
pub use Rattle.transport.proofs.Cases.{advance_fit}
-- an advance by a and then by b is an advance by a + b; and all that is promised
pub use Rattle.transport.proofs.Composes.{composes, promised}
-- no two answers that a call hands back read alike
pub use Rattle.transport.proofs.Readings.{handed_apart, moves_apart, advanced_apart}
