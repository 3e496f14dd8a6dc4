-- With fine lines, in reach, only 8 is left to refuse a block: by its own cues. It goes block by block.
use Rattle.std.proofs.Common.{◌≡◌, refl, sym, ap, ◌∙◌, Bool, true, false, cond, ◌&&◌, List, [], ◌∷◌, ℕ, ◌+◌, ◌-◌, ◌/◌, ◌^◌, arith, le-leb, length}
use Rattle.numbers.specs.Answers.{Answer, accepted, refused, is_accepted}
use Rattle.numbers.proofs.Laws.{cases}
use Rattle.transport.specs.declared.playhead.Run.{Run}
use Rattle.transport.specs.declared.Transport.{Transport}
use Rattle.transport.specs.Transports.{sound, playing}
use Rattle.transport.specs.Advances.{advanced}
use Rattle.transport.specs.Promise.{Reaches}
use Rattle.transport.proofs.Laws.{advanced_sound}
use Rattle.lines.specs.Lines.{lines_answer}
use Rattle.cues.specs.Sounding.{Cue, cues}
use Rattle.cues.specs.CueCall.{room_for, cue_test, moved_by, handed_by}
use Rattle.cues.specs.Promise.{Block, answer_to, next, all_accepted, frames_in, all_room, Accepting, Promised}
use Rattle.cues.proofs.Sounding.{sounds_none, silent}
use Rattle.cues.proofs.Answering.{past_lines}
use Rattle.cues.proofs.Blocks.{stays_sound, says, rest_reach, joining, by_blocks}
use Rattle.cues.proofs.Exactly.{exactly, ordered}

by_room : (t : Transport) (run : Run) (count : ℕ) (room : Bool) → is_accepted (handed_by t (cond room (accepted tt) (refused 8 [])) (moved_by run count)).answer ≡ room
by_room t run count true = refl
by_room t run count false = refl

and_then : (q : Bool) {a b : Bool} → (q ≡ true → a ≡ b) → (q && a) ≡ (q && b)
and_then true f = f refl
and_then false f = refl

module _ (lines : List ℕ) (fine : lines_answer lines ≡ accepted tt) where
  -- one that does not play has no cues, and so room for them
  silent_room : (t : Transport) (block : Block) → playing t.state ≡ false → room_for (cues lines t block.frames) block.out ≡ true
  silent_room t block p =
      ap (λ (found : List Cue). room_for found block.out) (silent lines t block.frames (λ time. sounds_none t time p)) ∙ le-leb 0 (length block.out / 2) (omega arith)

  test_is : (t : Transport) (block : Block) → sound t ≡ true → Reaches t block.frames
      → cue_test t lines block.frames block.out ≡ cond (room_for (cues lines t block.frames) block.out) (accepted tt) (refused 8 [])
  test_is t block is h = past_lines t lines block.frames block.out is (sym fine)
      ∙ cases (playing t.state) (λ p. simp (p, le-leb (t.position + block.frames) (2 ^ 64 - 1) (h p))) (λ p. simp (p, silent_room t block p))

  one_accepted : (t : Transport) (block : Block) → sound t ≡ true → Reaches t block.frames
      → is_accepted (answer_to lines t block).answer ≡ room_for (cues lines t block.frames) block.out
  one_accepted t block is h =
      ap (λ (a : Answer Unit). is_accepted (handed_by t a (moved_by (advanced t block.frames) (length (cues lines t block.frames)))).answer) (test_is t block is h)
      ∙ by_room t (advanced t block.frames) (length (cues lines t block.frames)) (room_for (cues lines t block.frames) block.out)

  -- a block before others
  more_accepted : (t : Transport) (block : Block) (rest : List Block) → sound t ≡ true → Reaches t block.frames
      → all_accepted lines (advanced t block.frames).transport rest ≡ all_room lines (advanced t block.frames).transport rest
      → all_accepted lines t (block ∷ rest) ≡ all_room lines t (block ∷ rest)
  more_accepted t block rest is h others =
      let here = one_accepted t block is h in
      ap (λ (q : Bool). q && all_accepted lines (next lines t block) rest) here
      ∙ and_then _ (λ room. ap (λ (u : Transport). all_accepted lines u rest) (says lines t block (here ∙ room)).next_is ∙ others)

  all_accepted_lem : (t : Transport) (blocks : List Block) → sound t ≡ true → Reaches t (frames_in blocks) → all_accepted lines t blocks ≡ all_room lines t blocks
  all_accepted_lem t [] is h = refl
  all_accepted_lem t (block ∷ rest) is h = more_accepted t block rest is (λ p. omega (arith, h p))
      (all_accepted_lem (advanced t block.frames).transport rest (advanced_sound t is block.frames) (rest_reach t block.frames (frames_in rest) is h))

pub accepting : Accepting
accepting lines t blocks is fine h = all_accepted_lem lines fine t blocks is h

pub promised : Promised
promised = record { joining = joining; by_blocks = by_blocks; exactly = exactly; in_order = ordered; accepting = accepting; stays_sound = stays_sound }
