-- A cue call hands back a sound transport where it was given one: an advanced one, or the old one where it refuses.
use Rattle.std.proofs.Common.{◌≡◌, ℕ, true, List, length}
use Rattle.numbers.specs.Answers.{Answer, accepted, refused}
use Rattle.transport.specs.declared.Transport.{Transport}
use Rattle.transport.specs.Transports.{sound}
use Rattle.transport.specs.Advances.{advanced}
use Rattle.transport.proofs.Laws.{advanced_sound}
use Rattle.cues.specs.CueCall.{handed_by, moved_by, cue_test, cue_answer}
use Rattle.cues.specs.Sounding.{cues}

module _ (t : Transport) (is : sound t ≡ true) (frames : ℕ) where
  by_answer : (answer : Answer Unit) (count : ℕ) → sound (handed_by t answer (moved_by (advanced t frames) count)).transport ≡ true
  by_answer (accepted u) count = advanced_sound t is frames
  by_answer (refused number facts) count = is

  pub kept : (lines out : List ℕ) → sound (cue_answer t lines frames out).transport ≡ true
  kept lines out = by_answer (cue_test t lines frames out) (length (cues lines t frames))
