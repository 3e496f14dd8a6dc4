-- The cues of a run are those of its first frames, and then those of the rest from where the first frames end. It goes by the frame sounded.
use Rattle.std.proofs.Common.{◌≡◌, refl, sym, ap, ◌∙◌, Bool, true, false, List, [], ◌∷◌, ◌++◌, map, append-nil, append_assoc, ℕ, zero, suc, ◌+◌, add-zero, zero-add, add-suc, arith, eqb, length}
use Rattle.std.proofs.Math.Option.{Option, none, some}
use Rattle.numbers.proofs.Laws.{cases}
use Rattle.transport.specs.declared.playhead.Run.{Run}
use Rattle.transport.specs.declared.Transport.{Transport}
use Rattle.transport.specs.Transports.{sound, playing}
use Rattle.transport.specs.Advances.{advanced}
use Rattle.transport.specs.Promise.{Composes, Reaches}
use Rattle.transport.proofs.Laws.{stays_put, advanced_plays, composes}
use Rattle.cues.specs.Sounding.{Cue, cue_if, stands_at, sounded_at, lines_equal, cues_at, cues, later}

-- ---- the frame sounded

module _ (t : Transport) (time : ℕ) where
  pub sounds_playing : playing t.state ≡ true → sounded_at t time ≡ stands_at (advanced t time)
  sounds_playing p = simp p

  pub sounds_none : playing t.state ≡ false → sounded_at t time ≡ none
  sounds_none p = simp p

module _ (t : Transport) (a b : ℕ) (h : Reaches t (a + b)) (is : sound t ≡ true) where
  abbrev after : Transport
  after = (advanced t a).transport

  whole : Composes t a b
  whole = composes t a b h is

  -- what a run of a + b frames sounds at last, by whether the first frames finish
  sounds_by : (q : Bool) → (advanced t a).moves.finished ≡ q → playing t.state ≡ true → stands_at (advanced t (a + b)) ≡ sounded_at after b
  sounds_by true e p = simp (whole.finishes, e, advanced_plays t a, p)
  sounds_by false e p = simp (whole.finishes, whole.ends, e, advanced_plays t a, p)

  sounds_on : sounded_at t (a + b) ≡ sounded_at after b
  sounds_on =
      cases (playing t.state) (λ p. sounds_playing t (a + b) p ∙ sounds_by (advanced t a).moves.finished refl p)
      (λ p. sounds_none t (a + b) p ∙ sym (sounds_none after b (ap (λ (run : Run). playing run.transport.state) (stays_put t a p) ∙ p)))

-- ---- cues, later

pub later_append : (time : ℕ) (xs ys : List Cue) → map (later time) (xs ++ ys) ≡ map (later time) xs ++ map (later time) ys
later_append time [] ys = refl
later_append time (x ∷ xs) ys = ap (λ (l : List Cue). later time x ∷ l) (later_append time xs ys)

pub later_zero : (xs : List Cue) → map (later 0) xs ≡ xs
later_zero [] = refl
later_zero (x ∷ xs) = ap (λ (n : ℕ). (n, x.1) ∷ map (later 0) xs) (zero-add x.0) ∙ ap (λ (l : List Cue). x ∷ l) (later_zero xs)

pub length_later : (time : ℕ) (xs : List Cue) → length (map (later time) xs) ≡ length xs
length_later time [] = refl
length_later time (x ∷ xs) = ap suc (length_later time xs)

later_when : (time : ℕ) (q : Bool) (cue : Cue) → map (later time) (cue_if q cue) ≡ cue_if q (later time cue)
later_when time true cue = refl
later_when time false cue = refl

later_lines : (a time frame place : ℕ) (lines : List ℕ) → map (later a) (lines_equal time frame place lines) ≡ lines_equal (a + time) frame place lines
later_lines a time frame place [] = refl
later_lines a time frame place (line ∷ rest) =
    later_append a (cue_if (eqb line frame) (time, place)) (lines_equal time frame (suc place) rest)
    ∙ ap (λ (l : List Cue). l ++ map (later a) (lines_equal time frame (suc place) rest)) (later_when a (eqb line frame) (time, place))
    ∙ ap (λ (l : List Cue). cue_if (eqb line frame) (a + time, place) ++ l) (later_lines a time frame (suc place) rest)

later_at : (a time : ℕ) (lines : List ℕ) (frame : Option ℕ) → map (later a) (cues_at lines time frame) ≡ cues_at lines (a + time) frame
later_at a time lines none = refl
later_at a time lines (some frame) = later_lines a time frame 0 lines

-- ---- the cues of a run

-- where nothing sounds there are none
pub silent : (lines : List ℕ) (t : Transport) (frames : ℕ) → ((time : ℕ) → sounded_at t time ≡ none) → cues lines t frames ≡ []
silent lines t zero h = refl
silent lines t (suc frames) h = ap (λ (c : List Cue). c ++ cues_at lines frames (sounded_at t frames)) (silent lines t frames h) ∙ ap (cues_at lines frames) (h frames)

pub cues_on : (lines : List ℕ) (t : Transport) (a b : ℕ) → sound t ≡ true → Reaches t (a + b)
    → cues lines t (a + b) ≡ cues lines t a ++ map (later a) (cues lines (advanced t a).transport b)
cues_on lines t a zero is h = ap (cues lines t) (add-zero a) ∙ sym (append-nil (cues lines t a))
cues_on lines t a (suc b) is h =
    ap (cues lines t) (add-suc a b)
    ∙ ap (λ (l : List Cue). l ++ last) (cues_on lines t a b is small)
    ∙ append_assoc (cues lines t a) (map (later a) (cues lines after b)) last
    ∙ ap (λ (l : List Cue). cues lines t a ++ (map (later a) (cues lines after b) ++ l)) (ap (cues_at lines (a + b)) (sounds_on t a b small is) ∙ sym (later_at a b lines (sounded_at after b)))
    ∙ ap (λ (l : List Cue). cues lines t a ++ l) (sym (later_append a (cues lines after b) (cues_at lines b (sounded_at after b))))
  where
    after : Transport
    after = (advanced t a).transport

    last : List Cue
    last = cues_at lines (a + b) (sounded_at t (a + b))

    small : Reaches t (a + b)
    small p = omega (arith, h p, add-suc a b)
