-- A run that neither wraps nor ends has the cues of a stretch; a run that reaches the loop's end is a stretch, and the run from the loop's start.
use Rattle.std.proofs.Common.{◌≡◌, refl, sym, ap, ◌∙◌, true, List, [], ◌∷◌, ◌++◌, map, append-nil, ℕ, zero, suc, ◌+◌, ◌-◌, ◌≤◌, ◌<◌, ◌^◌, add-zero, add-suc, arith, le-leb, lt-ltb, le-ltb, eq-eqb, ne_eqb}
use Rattle.std.proofs.Math.Option.{Option, some}
use Rattle.std.proofs.lemmas.Bool.{lt-leb}
use mathlib.Core.Bool.{and-false}
use native.Mathlib.Nat.{mod_self}
use Rattle.numbers.proofs.Laws.{by_order}
use Rattle.transport.specs.declared.PlayState.TheVariants.{Playing, Stopped}
use Rattle.std.specs.Prelude.{Some, None}
use Rattle.transport.specs.declared.playhead.Stands.{Stands}
use Rattle.transport.specs.declared.playhead.Stands.TheVariants.{At, Wrapped, Ended}
use Rattle.transport.specs.declared.playhead.Run.{Run}
use Rattle.transport.specs.declared.Transport.{Transport}
use Rattle.transport.specs.Transports.{sound, playing, moved_to}
use Rattle.transport.specs.Advances.{standing, came}
use Rattle.transport.proofs.Laws.{plays_on}
use Rattle.lines.specs.Lines.{ascends_from, ascends}
use Rattle.lines.proofs.Laws.{up_step}
use Rattle.cues.specs.Sounding.{Cue, stands_at, sounded_at, lines_equal, cues_at, cues, later}
use Rattle.cues.specs.Plans.{stretch}
use Rattle.cues.proofs.Sounding.{sounds_playing, silent, cues_on}

-- ---- one line of a stretch, or not

module _ (from frames place line : ℕ) (rest : List ℕ) where
  pub stretch_below : line < from → stretch from frames place (line ∷ rest) ≡ stretch from frames (suc place) rest
  stretch_below h = simp (lt-leb from line h)

  pub stretch_past : from + frames ≤ line → stretch from frames place (line ∷ rest) ≡ stretch from frames (suc place) rest
  stretch_past h = simp (le-ltb line (from + frames) h, and-false)

  pub stretch_in : from ≤ line → line < from + frames → stretch from frames place (line ∷ rest) ≡ (line - from, place) ∷ stretch from frames (suc place) rest
  stretch_in h k = simp (le-leb from line h, lt-ltb line (from + frames) k)

module _ (time frame place line : ℕ) (rest : List ℕ) where
  equal_line : line ≡ frame → lines_equal time frame place (line ∷ rest) ≡ (time, place) ∷ lines_equal time frame (suc place) rest
  equal_line h = simp (eq-eqb line frame h)

  other_line : (line ≡ frame → ⊥) → lines_equal time frame place (line ∷ rest) ≡ lines_equal time frame (suc place) rest
  other_line h = simp (ne_eqb line frame h)

-- ---- one frame more

-- lines past a stretch are none of it, and those at its end are the next frame's
abbrev Past : ℕ → ℕ → ℕ → List ℕ → Type 0
Past from frames place lines = (stretch from frames place lines ≡ []) × (stretch from (suc frames) place lines ≡ lines_equal frames (from + frames) place lines)

past_step : (from frames place line : ℕ) (rest : List ℕ) → from + frames ≤ line → Past from frames (suc place) rest → Past from frames place (line ∷ rest)
past_step from frames place line rest g ih = (
  stretch_past from frames place line rest g ∙ ih.0,
  by_order (from + frames) line
      (λ high. stretch_past from (suc frames) place line rest (omega (arith, add-suc from frames)) ∙ ih.1 ∙ sym (other_line frames (from + frames) place line rest (λ e. omega arith)))
      (λ low.
      stretch_in from (suc frames) place line rest (omega arith) (omega (arith, add-suc from frames))
      ∙ ap (λ (n : ℕ). (n, place) ∷ stretch from (suc frames) (suc place) rest) (let o : line - from ≡ frames = omega arith in o)
      ∙ ap (λ (l : List Cue). (frames, place) ∷ l) ih.1
      ∙ sym (equal_line frames (from + frames) place line rest (omega arith))),
)

past : (from frames place low : ℕ) (lines : List ℕ) → ascends_from low lines ≡ true → from + frames ≤ low → Past from frames place lines
past from frames place low [] up g = (refl, refl)
past from frames place low (line ∷ rest) up g =
    let s = up_step low line rest up in
    past_step from frames place line rest (omega (arith, s.0)) (past from frames (suc place) line rest s.1 (omega (arith, s.0)))

abbrev More : ℕ → ℕ → ℕ → List ℕ → Type 0
More from frames place lines = stretch from (suc frames) place lines ≡ stretch from frames place lines ++ lines_equal frames (from + frames) place lines

more_step : (from frames place line : ℕ) (rest : List ℕ) → ascends_from line rest ≡ true → More from frames (suc place) rest → More from frames place (line ∷ rest)
more_step from frames place line rest up ih = by_order line (from + frames)
    (λ before. by_order line from
    (λ below.
    stretch_below from (suc frames) place line rest below ∙ ih
    ∙ sym (λ i. stretch_below from frames place line rest below i ++ other_line frames (from + frames) place line rest (λ e. omega arith) i))
    (λ inside.
    stretch_in from (suc frames) place line rest inside (omega (arith, add-suc from frames)) ∙ ap (λ (l : List Cue). (line - from, place) ∷ l) ih
    ∙ sym (λ i. stretch_in from frames place line rest inside before i ++ other_line frames (from + frames) place line rest (λ e. omega arith) i)))
    (λ high. let b = past_step from frames place line rest high (past from frames (suc place) line rest up high) in
    b.1 ∙ sym (ap (λ (l : List Cue). l ++ lines_equal frames (from + frames) place (line ∷ rest)) b.0))

one_more : (from frames place low : ℕ) (lines : List ℕ) → ascends_from low lines ≡ true → More from frames place lines
one_more from frames place low [] up = refl
one_more from frames place low (line ∷ rest) up =
    let s = up_step low line rest up in more_step from frames place line rest s.1 (one_more from frames (suc place) line rest s.1)

pub no_frames : (from place : ℕ) (lines : List ℕ) → stretch from 0 place lines ≡ []
no_frames from place [] = refl
no_frames from place (line ∷ rest) = by_order line from
    (λ h. stretch_below from 0 place line rest h ∙ no_frames from (suc place) rest)
    (λ h. stretch_past from 0 place line rest (omega arith) ∙ no_frames from (suc place) rest)

-- ---- where the frames sound one after the other, the cues are the stretch's

run_is : (lines : List ℕ) (t : Transport) (from frames : ℕ) → ascends lines ≡ true → ((time : ℕ) → time < frames → sounded_at t time ≡ some (from + time))
    → cues lines t frames ≡ stretch from frames 0 lines
run_is lines t from zero up s = sym (no_frames from 0 lines)
run_is lines t from (suc frames) up s =
    ap (λ (l : List Cue). l ++ cues_at lines frames (sounded_at t frames)) (run_is lines t from frames up (λ time g. s time (omega arith)))
    ∙ ap (λ (o : Option ℕ). stretch from frames 0 lines ++ cues_at lines frames o) (s frames (omega arith))
    ∙ sym (one_more from frames 0 0 lines up)

module _ (lines : List ℕ) (t : Transport) (up : ascends lines ≡ true) (is : sound t ≡ true) (p : playing t.state ≡ true) where
  -- while it neither wraps nor ends
  straight : (frames : ℕ) → t.position + frames ≤ 2 ^ 64 - 1 → ((time : ℕ) → time < frames → standing t.length t.looping (t.position + time) ≡ At (t.position + time))
      → cues lines t frames ≡ stretch t.position frames 0 lines
  straight frames h on =
      run_is lines t t.position frames up (λ time g. sounds_playing t time p ∙ ap stands_at (plays_on t time p (omega arith) ∙ ap (came t) (on time g)))

  -- the rest, behind frames that come to a place
  rest_is : (a b : ℕ) (place : Stands) → t.position + (a + b) ≤ 2 ^ 64 - 1 → standing t.length t.looping (t.position + a) ≡ place
      → cues lines t (a + b) ≡ cues lines t a ++ map (later a) (cues lines (came t place).transport b)
  rest_is a b place h e = cues_on lines t a b is (λ q. h) ∙ ap (λ (run : Run). cues lines t a ++ map (later a) (cues lines run.transport b)) (plays_on t a p (omega arith) ∙ ap (came t) e)

  pub straight_off : (frames : ℕ) → t.looping ≡ None → t.position + frames ≤ t.length → t.position + frames ≤ 2 ^ 64 - 1 → cues lines t frames ≡ stretch t.position frames 0 lines
  straight_off frames off k h = straight frames h (λ time g. simp (off, lt-leb t.length (t.position + time) (omega arith)))

  pub straight_on : (start end frames : ℕ) → t.looping ≡ Some (record { start = start; end = end }) → end ≤ t.length → t.position + frames ≤ end → t.position + frames ≤ 2 ^ 64 - 1
      → cues lines t frames ≡ stretch t.position frames 0 lines
  straight_on start end frames on k g h = straight frames h (λ time f. simp (on, lt-leb end (t.position + time) (omega arith), lt-leb t.length (t.position + time) (omega arith)))

  -- frames that reach the loop's end, and more
  pub wraps_on : (start end frames more : ℕ) → t.looping ≡ Some (record { start = start; end = end }) → end ≤ t.length → t.position + frames ≡ end → t.position + (frames + more) ≤ 2 ^ 64 - 1
      → cues lines t (frames + more) ≡ stretch t.position frames 0 lines ++ map (later frames) (cues lines (moved_to t start Playing) more)
  wraps_on start end frames more on k e h =
      rest_is frames more (Wrapped start) h (simp (on, e, le-leb end end (omega arith), mod_self, add-zero))
      ∙ ap (λ (c : List Cue). c ++ map (later frames) (cues lines (moved_to t start Playing) more)) (straight_on start end frames on k (omega arith) (omega arith))

  -- frames that reach the length with no loop: nothing sounds after them
  pub ends_off : (frames more : ℕ) → t.looping ≡ None → t.position + frames ≡ t.length → t.position + (frames + more) ≤ 2 ^ 64 - 1
      → cues lines t (frames + more) ≡ stretch t.position frames 0 lines
  ends_off frames more off e h =
      rest_is frames more Ended h (simp (off, e, le-leb t.length t.length (omega arith)))
      ∙ ap (λ (c : List Cue). cues lines t frames ++ map (later frames) c) (silent lines (moved_to t t.length Stopped) more (λ time. refl)) ∙ append-nil (cues lines t frames)
      ∙ straight_off frames off (omega arith) (omega arith)
