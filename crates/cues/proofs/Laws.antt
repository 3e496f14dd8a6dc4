-- What crates above may use of the cue call.

-- demand 3: a run may be cut into blocks. An accepted call shows that its transport is sound and its frames in reach; and a sound transport stays sound
pub use Rattle.cues.proofs.Blocks.{joining, by_blocks, accepted_fit, stays_sound}
-- where there is room no call of a block is refused; and all that is promised
pub use Rattle.cues.proofs.Accepting.{accepting, promised}
-- no two cases of the answer read alike
pub use Rattle.cues.proofs.Readings.{cues_apart}
