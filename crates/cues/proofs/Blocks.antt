-- A run cut into blocks. An accepted call says what `cues` and `advanced` say, for these a cut changes nothing, and so it goes block by block.
-- That it is accepted shows too that the transport is sound and the block in reach.
use Rattle.std.proofs.Common.{◌≡◌, refl, sym, ap, ◌∙◌, Bool, true, false, cond, ◌||◌, List, [], ◌∷◌, ◌++◌, map, append-nil, ℕ, ◌+◌, ◌-◌, ◌^◌, add-zero, arith, leb-true, length, drop}
use mathlib.Core.Bool.{or-false}
use Rattle.numbers.specs.Answers.{Answer, accepted, refused, given, over, is_accepted, then}
use Rattle.numbers.proofs.Laws.{never, and_left, and_right}
use Rattle.transport.specs.declared.Transport.{Transport}
use Rattle.transport.specs.Transports.{sound, playing}
use Rattle.transport.specs.Changes.{Handed}
use Rattle.transport.specs.Advances.{advanced}
use Rattle.transport.specs.Promise.{Composes, Reaches}
use Rattle.transport.proofs.Laws.{advanced_sound, advanced_plays, advanced_low, composes}
use Rattle.lines.specs.Lines.{lines_answer}
use Rattle.cues.specs.Sounding.{Cue, cues, later}
use Rattle.cues.specs.CueCall.{within_reach, cue_test, Said, moved_by, handed_by, flat}
use Rattle.cues.specs.Promise.{Block, said, pairs_of, answer_to, said_to, next, cues_in}
use Rattle.cues.specs.Promise.{all_accepted, joined_cues, last_transport, some_wraps, some_finishes, frames_in, RunJoined, Joining, ByBlocks, StaysSound}
use Rattle.cues.proofs.Sounding.{cues_on}

-- ---- from call to call

-- a sound transport stays sound
pub stays_sound : StaysSound
stays_sound lines t block is = by_test (cue_test t lines block.frames block.out)
  where
    by_test : (test : Answer Unit) → sound (handed_by t test (moved_by (advanced t block.frames) (length (cues lines t block.frames)))).transport ≡ true
    by_test (accepted u) = advanced_sound t is block.frames
    by_test (refused number facts) = is

-- where a part of a run ends, the rest is in reach
pub rest_reach : (t : Transport) (a n : ℕ) → sound t ≡ true → Reaches t (a + n) → Reaches (advanced t a).transport n
rest_reach t a n is h p = omega (arith, h (and_left (playing t.state) _ (sym (advanced_plays t a) ∙ p)), advanced_low t a is)

-- ---- an accepted call

-- what is written is read back
read_back : (xs : List Cue) (rest : List ℕ) → pairs_of (length xs) (flat xs ++ rest) ≡ xs
read_back [] rest = refl
read_back (x ∷ xs) rest = ap (λ (l : List Cue). x ∷ l) (read_back xs rest)

-- the call is accepted where its test is
handed_as : (t : Transport) (test : Answer Unit) (moved : Handed Said) → is_accepted moved.answer ≡ true → is_accepted (handed_by t test moved).answer ≡ is_accepted test
handed_as t (accepted u) moved e = e
handed_as t (refused number facts) moved e = refl

-- a test that is passed: neither 12 nor 10 refuses
past : (fit plays near : Bool) (lines room : Answer Unit) → is_accepted (cond fit (then lines (λ u. cond plays (cond near room (refused 10 [])) (accepted tt))) (refused 12 [])) ≡ true
    → (fit ≡ true) × (plays ≡ true → near ≡ true)
past false plays near lines room e = never e
past true plays true lines room e = (refl, λ p. refl)
past true false false lines room e = (refl, λ p. p)
past true true false (accepted u) room e = never e
past true true false (refused number facts) room e = never e

module _ (lines : List ℕ) where
  pub record Says (t : Transport) (block : Block) : Type 0 where
    pub cues_are : cues_in lines t block ≡ cues lines t block.frames
    pub next_is : next lines t block ≡ (advanced t block.frames).transport
    pub wraps_is : (said_to lines t block).wrapped ≡ (advanced t block.frames).moves.wrapped
    pub finishes_is : (said_to lines t block).finished ≡ (advanced t block.frames).moves.finished

  module _ (t : Transport) (block : Block) where
    abbrev test : Answer Unit
    test = cue_test t lines block.frames block.out

    says_by : (a : Answer Unit) → test ≡ a → is_accepted (handed_by t a (moved_by (advanced t block.frames) (length (cues lines t block.frames)))).answer ≡ true → Says t block
    says_by (accepted u) e h = record {
      cues_are =
          ap (λ (a : Answer Unit). pairs_of (said (handed_by t a moved).answer).count (given (λ u. words) a block.out)) e
          ∙ read_back (cues lines t block.frames) (drop (length (flat (cues lines t block.frames))) block.out);
      next_is = ap (λ (a : Answer Unit). (handed_by t a moved).transport) e;
      wraps_is = ap (λ (a : Answer Unit). (said (handed_by t a moved).answer).wrapped) e;
      finishes_is = ap (λ (a : Answer Unit). (said (handed_by t a moved).answer).finished) e;
    }
      where
        moved : Handed Said
        moved = moved_by (advanced t block.frames) (length (cues lines t block.frames))

        words : List ℕ
        words = over (flat (cues lines t block.frames)) block.out
    says_by (refused number facts) e h = absurd (let z : ◌≡◌ {A = ℕ} 0 1 = cc in omega arith)

    pub says : is_accepted (answer_to lines t block).answer ≡ true → Says t block
    says h = says_by test refl h

    pub accepted_fit : is_accepted (answer_to lines t block).answer ≡ true → (sound t ≡ true) × Reaches t block.frames
    accepted_fit h =
        let passed = past (sound t) (playing t.state) (within_reach t block.frames) (lines_answer lines) _ (sym (handed_as t test (moved_by (advanced t block.frames) (length (cues lines t block.frames))) refl) ∙ h) in
        (passed.0, λ p. leb-true (t.position + block.frames) (2 ^ 64 - 1) (passed.1 p))

  -- ---- the blocks' calls

  one_block : (t : Transport) (block : Block) → Says t block → RunJoined lines t (block ∷ [])
  one_block t block s = record {
    run_cues = append-nil (cues_in lines t block) ∙ s.cues_are ∙ ap (cues lines t) all;
    run_end = s.next_is ∙ ap (λ (n : ℕ). (advanced t n).transport) all;
    run_wrap = or-false (said_to lines t block).wrapped ∙ s.wraps_is ∙ ap (λ (n : ℕ). (advanced t n).moves.wrapped) all;
    run_finish = or-false (said_to lines t block).finished ∙ s.finishes_is ∙ ap (λ (n : ℕ). (advanced t n).moves.finished) all;
  }
    where
      all : block.frames ≡ block.frames + 0
      all = sym (add-zero block.frames)

  -- a block before others
  more_blocks : (t : Transport) (block : Block) (rest : List Block) → sound t ≡ true → Reaches t (frames_in (block ∷ rest)) → Says t block
      → RunJoined lines (advanced t block.frames).transport rest → RunJoined lines t (block ∷ rest)
  more_blocks t block rest is h s j = record {
    run_cues =
        (λ i. s.cues_are i ++ map (later block.frames) (joined_cues lines (s.next_is i) rest))
        ∙ ap (λ (others : List Cue). cues lines t block.frames ++ map (later block.frames) others) j.run_cues
        ∙ sym (cues_on lines t block.frames (frames_in rest) is h);
    run_end = ap (λ (u : Transport). last_transport lines u rest) s.next_is ∙ j.run_end ∙ sym whole.ends;
    run_wrap = (λ i. s.wraps_is i || some_wraps lines (s.next_is i) rest) ∙ ap (λ (q : Bool). (advanced t block.frames).moves.wrapped || q) j.run_wrap ∙ sym whole.wraps;
    run_finish = (λ i. s.finishes_is i || some_finishes lines (s.next_is i) rest) ∙ ap (λ (q : Bool). (advanced t block.frames).moves.finished || q) j.run_finish ∙ sym whole.finishes;
  }
    where
      whole : Composes t block.frames (frames_in rest)
      whole = composes t block.frames (frames_in rest) h is

  run_joined : (t : Transport) (first : Block) (rest : List Block) → Reaches t (frames_in (first ∷ rest)) → all_accepted lines t (first ∷ rest) ≡ true → RunJoined lines t (first ∷ rest)
  run_joined t first [] h ok = one_block t first (says t first (and_left (is_accepted (answer_to lines t first).answer) true ok))
  run_joined t first (second ∷ rest) h ok =
      let here = and_left (is_accepted (answer_to lines t first).answer) (all_accepted lines (next lines t first) (second ∷ rest)) ok in
      let others = and_right (is_accepted (answer_to lines t first).answer) (all_accepted lines (next lines t first) (second ∷ rest)) ok in
      let s = says t first here in
      let is = (accepted_fit t first here).0 in
      let u = (advanced t first.frames).transport in
      more_blocks t first (second ∷ rest) is h s
      (run_joined u second rest (rest_reach t first.frames (frames_in (second ∷ rest)) is h) (sym (ap (λ (v : Transport). all_accepted lines v (second ∷ rest)) s.next_is) ∙ others))

-- ---- the promise

pub joining : Joining
joining = run_joined

pub by_blocks : ByBlocks
by_blocks lines t whole first rest same ok oks =
    let s = says lines t whole ok in
    let j = joining lines t first rest (λ p. omega (arith, same, (accepted_fit lines t whole ok).1 p)) oks in
    record {
      sounded_cues = s.cues_are;
      same_cues = s.cues_are ∙ ap (cues lines t) same ∙ sym j.run_cues;
      same_end = s.next_is ∙ ap (λ (n : ℕ). (advanced t n).transport) same ∙ sym j.run_end;
      same_wrap = s.wraps_is ∙ ap (λ (n : ℕ). (advanced t n).moves.wrapped) same ∙ sym j.run_wrap;
      same_finish = s.finishes_is ∙ ap (λ (n : ℕ). (advanced t n).moves.finished) same ∙ sym j.run_finish;
    }
