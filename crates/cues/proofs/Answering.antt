-- Each way out of the cue call, by what its test says.
use Rattle.std.proofs.Common.{◌≡◌, sym, ap, ◌∙◌, true, false, cond, List, [], ℕ, ◌≤◌, le-leb, length}
use Rattle.numbers.specs.Answers.{Answer, accepted, given, over, then}
use Rattle.transport.specs.declared.playhead.Run.{Run}
use Rattle.transport.specs.declared.Transport.{Transport}
use Rattle.transport.specs.Transports.{sound, playing}
use Rattle.transport.specs.Advances.{advanced}
use Rattle.transport.proofs.Laws.{stays_put}
use Rattle.lines.specs.Lines.{ascends, lines_answer}
use Rattle.std.specs.Prelude.{Ok}
use Rattle.transport.specs.declared.Handed.{Handed}
use Rattle.cues.specs.declared.Cued.{Cued}
use Rattle.cues.specs.Sounding.{Cue, cues}
use Rattle.cues.specs.CueCall.{play_test, cue_test, moved_by, handed_by, cue_answer, flat, cue_after}
use Rattle.cues.specs.Readings.{read_cues}
use Rattle.cues.proofs.Sounding.{sounds_none, silent}

-- lines that the test passes
pub fine : (lines : List ℕ) → length lines ≤ 65536 → ascends lines ≡ true → accepted tt ≡ lines_answer lines
fine lines few up = simp (le-leb (length lines) 65536 few, up)

module _ (t : Transport) (lines : List ℕ) (frames : ℕ) (out : List ℕ) where
  -- what a call answers, and the words that it leaves
  abbrev pub Answers : Handed Cued → List ℕ → Type 0
  Answers r words = (read_cues r ≡ cue_answer t lines frames out) × (words ≡ cue_after t lines frames out)

  abbrev test : Answer Unit
  test = cue_test t lines frames out

  abbrev run : Run
  run = advanced t frames

  abbrev all : List Cue
  all = cues lines t frames

  -- ---- by the test

  accepts : (r : Handed Cued) (words : List ℕ) → test ≡ accepted tt → read_cues r ≡ moved_by run (length all) → words ≡ over (flat all) out → Answers r words
  accepts r words e is left =
      (is ∙ sym (ap (λ (a : Answer Unit). handed_by t a (moved_by run (length all))) e), left ∙ sym (ap (λ (a : Answer Unit). given (λ u. over (flat all) out) a out) e))

  module _ (is : sound t ≡ true) where
    module _ (fine : accepted tt ≡ lines_answer lines) where
      pub past_lines : test ≡ cond (playing t.state) (play_test t lines frames out) (accepted tt)
      past_lines = simp is (ap (λ (a : Answer Unit). then a (λ u. cond (playing t.state) (play_test t lines frames out) (accepted tt))) (sym fine))

      -- ---- not playing: no cues and no move

      pub idle : playing t.state ≡ false → Answers (record { transport = t; answer = Ok (record { wrapped = false; finished = false; count = 0 }) }) out
      idle p = accepts (record { transport = t; answer = Ok (record { wrapped = false; finished = false; count = 0 }) }) out (past_lines ∙ simp p)
          (sym (ap (λ (r : Run). moved_by r (length all)) (stays_put t frames p) ∙ ap (λ (c : List Cue). moved_by (record { transport = t; moves = record { wrapped = false; finished = false } }) (length c)) none))
          (sym (ap (λ (c : List Cue). over (flat c) out) none))
        where
          none : all ≡ []
          none = silent lines t frames (λ time. sounds_none t time p)
