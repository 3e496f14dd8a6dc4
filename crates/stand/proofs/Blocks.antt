-- A run cut into blocks, over the exported call's words. The clock that a call leaves is read as the transport handed back, so the run of the words is that
-- of the transports; and a call that answers 0 writes words 4 and 5 alone, so the words at the end are the first ones placed where the last transport stands.
use mathlib.Core.Path.{◌≡◌, refl, sym, ap, ◌∙◌}
use mathlib.Core.Bool.{Bool, true, false, cond, ◌&&◌, ◌||◌}
use mathlib.Core.List.{List, [], ◌∷◌, ◌++◌, map}
use Prim.Native.Nat.{ℕ}
use borrow.Author.Tests.{eq-eqb}
use lib.Dec.{leb, eqb}
use lib.ListN.{length}
use Rattle.numbers.specs.Answers.{Answer, accepted, refused, number, given, is_accepted, then}
use Rattle.numbers.proofs.Laws.{never, and_left, and_right}
use Rattle.transport.specs.declared.playhead.Run.{Run}
use Rattle.transport.specs.declared.Transport.{Transport}
use Rattle.transport.specs.Transports.{sound, playing}
use Rattle.transport.specs.Changes.{Handed}
use Rattle.transport.specs.Advances.{Moves, advanced}
use Rattle.transport.specs.Promise.{Reaches}
use Rattle.transport.proofs.Laws.{advance_fit}
use Rattle.lines.specs.Lines.{ascends}
use Rattle.cues.specs.Sounding.{cues, later}
use Rattle.cues.specs.CueCall.{Said, within_reach, room_for, moved_by, handed_by, cue_after}
use Rattle.cues.specs.Promise.{Block, said, pairs_of, answer_to, said_to, next, cues_in}
use Rattle.cues.specs.Promise.{all_accepted, joined_cues, last_transport, some_wraps, some_finishes, frames_in}
use Rattle.cues.proofs.Laws.{joining, by_blocks, accepted_fit, accepting}
use Rattle.clock_words.specs.Clocks.{clock_of, placed}
use Rattle.clock_words.proofs.Laws.{placed_twice, placed_long}
use Rattle.stand.specs.Calls.{advanced_by, cued, cues_after}
use Rattle.stand.specs.Words.{flags, moves_flags, said_flags, said_count, clock_after}
use Rattle.stand.specs.Promise.{Call, blocks_of, says_wrapped, says_finished, handed_to, number_to, clock_then, report_then, cues_then}
use Rattle.stand.specs.Promise.{all_zero, cues_joined, last_clock, some_wrapped, some_finished, RunCalled, SameAsCalls, CutsIntoBlocks}
use Rattle.stand.proofs.Carrying.{carries}

-- ---- one answer

-- the number of a cue call is 0 just when it is accepted: no refusal has the number 0
module _ (t : Transport) (run : Run) (count : ℕ) where
  abbrev Zero : Answer Unit → Type 0
  Zero test = eqb (number (handed_by t test (moved_by run count)).answer) 0 ≡ is_accepted (handed_by t test (moved_by run count)).answer

  tested : (fit short rising plays near room : Bool) → Zero
      (cond fit (then {A = Unit} (cond short (cond rising (accepted tt) (refused 11 [])) (refused 4 []))
      (λ u. cond plays (cond near (cond room (accepted tt) (refused 8 [])) (refused 10 [])) (accepted tt))) (refused 12 []))
  tested false short rising plays near room = refl
  tested true false rising plays near room = refl
  tested true true false plays near room = refl
  tested true true true false near room = refl
  tested true true true true false room = refl
  tested true true true true true false = refl
  tested true true true true true true = refl

zero_accepted : (t : Transport) (lines : List ℕ) (block : Block) → eqb (number (answer_to lines t block).answer) 0 ≡ is_accepted (answer_to lines t block).answer
zero_accepted t lines block =
    let found = cues lines t block.frames in
    tested t (advanced t block.frames) (length found) (sound t) (leb (length lines) 65536) (ascends lines) (playing t.state) (within_reach t block.frames) (room_for found block.out)

-- a lent word afterwards: what an accepted answer says
given_said : {B : Type 0} (part : Said → B) (old : B) (answer : Answer Said) → is_accepted answer ≡ true → given part answer old ≡ part (said answer)
given_said part old (accepted s) ok = refl
given_said part old (refused n facts) ok = never ok

says_wrapped_lem : (wrapped finished : Bool) → says_wrapped (flags wrapped finished) ≡ wrapped
unfolding flags
says_wrapped_lem true true = refl
says_wrapped_lem true false = refl
says_wrapped_lem false true = refl
says_wrapped_lem false false = refl

says_finished_lem : (wrapped finished : Bool) → says_finished (flags wrapped finished) ≡ finished
unfolding flags
says_finished_lem true true = refl
says_finished_lem true false = refl
says_finished_lem false true = refl
says_finished_lem false false = refl

-- a clock is of as many words as before, placed or not
given_long : (clock : List ℕ) (t : Transport) (answer : Answer Said) → length (given (λ (s : Said). placed clock t) answer clock) ≡ length clock
given_long clock t (accepted s) = placed_long clock t
given_long clock t (refused n facts) = refl

-- ---- one call

module _ (lines : List ℕ) where
  -- the clock is of eleven words still, and is read as the transport that is handed back
  module _ (clock : List ℕ) (long : length clock ≡ 11) (call : Call) where
    long_then : length (clock_then lines clock call) ≡ 11
    long_then = given_long clock (handed_to lines clock call).transport (handed_to lines clock call).answer ∙ long

    carried : clock_of (clock_then lines clock call) ≡ next lines (clock_of clock) call.block
    unfolding cued
    carried = (carries clock long).cues lines call.block.frames call.block.out

  zero_is : (clock : List ℕ) (call : Call) → eqb (number_to lines clock call) 0 ≡ is_accepted (answer_to lines (clock_of clock) call.block).answer
  unfolding cued
  zero_is clock call = zero_accepted (clock_of clock) lines call.block

  -- an accepted call says in words what it says of the transport
  record Says (clock : List ℕ) (call : Call) : Type 0 where
    cues_are : cues_then lines clock call ≡ cues_in lines (clock_of clock) call.block
    clock_is : clock_then lines clock call ≡ placed clock (next lines (clock_of clock) call.block)
    wraps_is : says_wrapped (report_then lines clock call) ≡ (said_to lines (clock_of clock) call.block).wrapped
    finishes_is : says_finished (report_then lines clock call) ≡ (said_to lines (clock_of clock) call.block).finished

  says : (clock : List ℕ) (call : Call) → is_accepted (answer_to lines (clock_of clock) call.block).answer ≡ true → Says clock call
  unfolding cued cues_after
  says clock call ok =
      let handed = answer_to lines (clock_of clock) call.block in
      let report = given_said said_flags call.report handed.answer ok in
      let s = said handed.answer in
      record {
        cues_are =
            ap (λ (n : ℕ). pairs_of n (cue_after (clock_of clock) lines call.block.frames call.block.out)) (given_said said_count call.count handed.answer ok);
        clock_is = given_said (λ (s : Said). placed clock handed.transport) clock handed.answer ok;
        wraps_is = ap says_wrapped report ∙ says_wrapped_lem s.wrapped s.finished;
        finishes_is = ap says_finished report ∙ says_finished_lem s.wrapped s.finished;
      }

  -- ---- the blocks' calls

  all_zero_lem : (calls : List Call) (clock : List ℕ) → length clock ≡ 11 → all_zero lines clock calls ≡ all_accepted lines (clock_of clock) (blocks_of calls)
  all_zero_lem [] clock long = refl
  all_zero_lem (call ∷ rest) clock long =
      (λ i. zero_is clock call i && all_zero_lem rest (clock_then lines clock call) (long_then clock long call) i)
      ∙ ap (λ (t : Transport). is_accepted (answer_to lines (clock_of clock) call.block).answer && all_accepted lines t (blocks_of rest)) (carried clock long call)

  -- the run of the words is that of the transports
  record Runs (clock : List ℕ) (calls : List Call) : Type 0 where
    cues_are : cues_joined lines clock calls ≡ joined_cues lines (clock_of clock) (blocks_of calls)
    wraps_is : some_wrapped lines clock calls ≡ some_wraps lines (clock_of clock) (blocks_of calls)
    finishes_is : some_finished lines clock calls ≡ some_finishes lines (clock_of clock) (blocks_of calls)

  module _ (clock : List ℕ) (long : length clock ≡ 11) (call : Call) (rest : List Call) (ok : all_accepted lines (clock_of clock) (blocks_of (call ∷ rest)) ≡ true) where
    first_says : Says clock call
    first_says = says clock call (and_left (is_accepted (answer_to lines (clock_of clock) call.block).answer) _ ok)

    rest_accepted : all_accepted lines (clock_of (clock_then lines clock call)) (blocks_of rest) ≡ true
    rest_accepted =
        ap (λ (t : Transport). all_accepted lines t (blocks_of rest)) (carried clock long call)
        ∙ and_right (is_accepted (answer_to lines (clock_of clock) call.block).answer) _ ok

  runs : (calls : List Call) (clock : List ℕ) → length clock ≡ 11 → all_accepted lines (clock_of clock) (blocks_of calls) ≡ true → Runs clock calls
  runs [] clock long ok = record { cues_are = refl; wraps_is = refl; finishes_is = refl }
  runs (call ∷ rest) clock long ok =
      let s = first_says clock long call rest ok in
      let r = runs rest (clock_then lines clock call) (long_then clock long call) (rest_accepted clock long call rest ok) in
      let t = clock_of clock in
      record {
        cues_are =
            (λ i. s.cues_are i ++ map (later call.block.frames) (r.cues_are i))
            ∙ ap (λ (u : Transport). cues_in lines t call.block ++ map (later call.block.frames) (joined_cues lines u (blocks_of rest))) (carried clock long call);
        wraps_is =
            (λ i. s.wraps_is i || r.wraps_is i)
            ∙ ap (λ (u : Transport). (said_to lines t call.block).wrapped || some_wraps lines u (blocks_of rest)) (carried clock long call);
        finishes_is =
            (λ i. s.finishes_is i || r.finishes_is i)
            ∙ ap (λ (u : Transport). (said_to lines t call.block).finished || some_finishes lines u (blocks_of rest)) (carried clock long call);
      }

  -- the words at the end
  ends : (rest : List Call) (clock : List ℕ) (first : Call) → length clock ≡ 11 → all_accepted lines (clock_of clock) (blocks_of (first ∷ rest)) ≡ true
      → last_clock lines clock (first ∷ rest) ≡ placed clock (last_transport lines (clock_of clock) (blocks_of (first ∷ rest)))
  ends [] clock first long ok = (first_says clock long first [] ok).clock_is
  ends (second ∷ rest) clock first long ok =
      let u = next lines (clock_of clock) first.block in
      let last = last_transport lines u (blocks_of (second ∷ rest)) in
      ends rest (clock_then lines clock first) second (long_then clock long first) (rest_accepted clock long first (second ∷ rest) ok)
      ∙ ap (λ (t : Transport). placed (clock_then lines clock first) (last_transport lines t (blocks_of (second ∷ rest)))) (carried clock long first)
      ∙ ap (λ (words : List ℕ). placed words last) (first_says clock long first (second ∷ rest) ok).clock_is
      ∙ placed_twice u last clock long

-- ---- the promise

module _ (clock : List ℕ) (long : length clock ≡ 11) (lines : List ℕ) where
  module _ (first : Call) (rest : List Call) (all : all_zero lines clock (first ∷ rest) ≡ true) where
    oks : all_accepted lines (clock_of clock) (blocks_of (first ∷ rest)) ≡ true
    oks = sym (all_zero_lem lines (first ∷ rest) clock long) ∙ all

    run_called : Reaches (clock_of clock) (frames_in (blocks_of (first ∷ rest))) → RunCalled lines clock (first ∷ rest)
    unfolding advanced_by
    run_called reach =
        let t = clock_of clock in
        let n = frames_in (blocks_of (first ∷ rest)) in
        let fit = (accepted_fit lines t first.block (and_left (is_accepted (answer_to lines t first.block).answer) _ oks)).0 in
        let j = joining lines t first.block (blocks_of rest) reach oks in
        let r = runs lines (first ∷ rest) clock long oks in
        let wrapped = (advanced t n).moves.wrapped in
        let finished = (advanced t n).moves.finished in
        record {
          run_cues = r.cues_are ∙ j.run_cues;
          run_clock = ends lines rest clock first long oks ∙ ap (placed clock) j.run_end ∙ ap (clock_after clock) (advance_fit t n fit);
          run_wrap = λ report. r.wraps_is ∙ j.run_wrap ∙ sym (says_wrapped_lem wrapped finished)
              ∙ ap (λ (h : Handed Moves). says_wrapped (given moves_flags h.answer report)) (advance_fit t n fit);
          run_finish = λ report. r.finishes_is ∙ j.run_finish ∙ sym (says_finished_lem wrapped finished)
              ∙ ap (λ (h : Handed Moves). says_finished (given moves_flags h.answer report)) (advance_fit t n fit);
        }

    same_as_calls : (whole : Call) → whole.block.frames ≡ frames_in (blocks_of (first ∷ rest)) → number_to lines clock whole ≡ 0 → SameAsCalls lines clock whole (first ∷ rest)
    same_as_calls whole same none =
        let ok = sym (zero_is lines clock whole) ∙ eq-eqb (number_to lines clock whole) 0 none in
        let s = says lines clock whole ok in
        let r = runs lines (first ∷ rest) clock long oks in
        let b = by_blocks lines (clock_of clock) whole.block first.block (blocks_of rest) same ok oks in
        record {
          sounded_cues = s.cues_are ∙ b.sounded_cues;
          same_cues = s.cues_are ∙ b.same_cues ∙ sym r.cues_are;
          same_clock = s.clock_is ∙ ap (placed clock) b.same_end ∙ sym (ends lines rest clock first long oks);
          same_wrap = s.wraps_is ∙ b.same_wrap ∙ sym r.wraps_is;
          same_finish = s.finishes_is ∙ b.same_finish ∙ sym r.finishes_is;
        }

pub cuts : CutsIntoBlocks
cuts clock long =
    record {
      joining = λ lines first rest reach all. run_called clock long lines first rest all reach;
      by_blocks = λ lines whole first rest same none all. same_as_calls clock long lines first rest all whole same none;
      accepting = λ lines calls fit fine reach. all_zero_lem lines calls clock long ∙ accepting lines (clock_of clock) (blocks_of calls) fit fine reach;
    }
