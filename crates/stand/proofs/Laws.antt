-- What is proved of the exported calls beyond each call's own answer.

-- a clock's words afterwards are read as the transport that the call hands back, so a sound clock stays sound
pub use Rattle.stand.proofs.Carrying.{carries, stay_sound}
-- demand 3 over the words of the exported cue call: a run may be cut into blocks; and where there is room no call of a block is refused
pub use Rattle.stand.proofs.Blocks.{cuts}
