-- An advance by a and then by b is an advance by a + b, by the three cases of a playhead that is carried on.
use mathlib.Core.Path.{◌≡◌, refl, sym, ap, ◌∙◌}
use mathlib.Core.Logic.{inl, inr}
use mathlib.Core.Bool.{Bool, true, false, ◌||◌}
use Prim.Native.Nat.{ℕ, ◌+◌, ◌-◌, ◌≤◌, ◌^◌}
use native.Mathlib.Omega.{arith}
use Rattle.numbers.proofs.Laws.{cases}
use Rattle.transport.specs.declared.PlayState.TheVariants.{Stopped, Playing}
use Rattle.transport.specs.declared.playhead.Stands.{Stands}
use Rattle.transport.specs.declared.playhead.Stands.TheVariants.{At, Wrapped, Ended}
use Rattle.transport.specs.declared.playhead.Run.{Run}
use Rattle.transport.specs.declared.Transport.{Transport}
use Rattle.transport.specs.Transports.{sound, playing, moved_to}
use Rattle.transport.specs.Advances.{standing, came, advanced, moves_of}
use Rattle.transport.specs.Promise.{Composes, Reaches, moving, CallsCompose, Promised}
use Rattle.transport.proofs.Loops.{sound_loop_lem}
use Rattle.transport.proofs.Cases.{advance_fit}
use Rattle.transport.proofs.Carrying.{Carried, went, folded, over, carried}
use Rattle.transport.proofs.Sound.{sound_made, advanced_sound, stays_sound}
use Rattle.transport.proofs.Advancing.{plays_on, plays_from, stays_put}

-- ---- two advances

moves_are : (r : Run) {t : Transport} {w f : Bool} → r.transport ≡ t → r.moves.wrapped ≡ w → r.moves.finished ≡ f → moves_of r ≡ moving t (w, f)
moves_are r p q s = rw (p, q, s)

-- from what the three runs are: the first, the second and the whole
composes_by : (t : Transport) (a b : ℕ) (first second whole : Run) → advanced t a ≡ first → advanced first.transport b ≡ second → advanced t (a + b) ≡ whole
    → whole.transport ≡ second.transport → whole.moves.wrapped ≡ (first.moves.wrapped || second.moves.wrapped) → whole.moves.finished ≡ (first.moves.finished || second.moves.finished) → Composes t a b
composes_by t a b first second whole one two all e w f = record {
  ends = ap (λ (r : Run). r.transport) all ∙ e ∙ sym (ap (λ (r : Run). r.transport) then);
  wraps = said (λ (r : Run). r.moves.wrapped) w;
  finishes = said (λ (r : Run). r.moves.finished) f;
}
  where
    then : advanced (advanced t a).transport b ≡ second
    then = ap (λ (r : Run). advanced r.transport b) one ∙ two

    said : (f : Run → Bool) → f whole ≡ (f first || f second) → f (advanced t (a + b)) ≡ (f (advanced t a) || f (advanced (advanced t a).transport b))
    said f e = ap f all ∙ e ∙ sym (ap (λ (r : Run). f r || f second) one) ∙ sym (ap (λ (r : Run). f (advanced t a) || f r) then)

module _ (t : Transport) (a b : ℕ) where
  module _ (p : playing t.state ≡ true) (h : t.position + (a + b) ≤ 2 ^ 64 - 1) where
    first_is : (place : Stands) → standing t.length t.looping (t.position + a) ≡ place → advanced t a ≡ came t place
    first_is place e = plays_on t a p (omega arith) ∙ ap (came t) e

    second_is : (frame : ℕ) (place : Stands) → frame ≤ t.position + a → standing t.length t.looping (frame + b) ≡ place → advanced (moved_to t frame Playing) b ≡ came t place
    second_is frame place k e = plays_from t frame b (omega arith) ∙ ap (came t) e

    whole_is : (place : Stands) → standing t.length t.looping (t.position + (a + b)) ≡ place → advanced t (a + b) ≡ came t place
    whole_is place e = plays_on t (a + b) p h ∙ ap (came t) e

    composes_playing : Carried t.length t.looping t.position a b → Composes t a b
    composes_playing (went k e f) = composes_by t a b (came t (At (t.position + a))) (came t place) (came t place)
        (first_is (At (t.position + a)) e)
        (second_is (t.position + a) place (omega arith) refl) (whole_is place f) refl refl refl
      where
        place : Stands
        place = standing t.length t.looping ((t.position + a) + b)
    composes_playing (folded frame last k l e f (inl g)) =
        composes_by t a b (came t (Wrapped frame)) (came t (At last)) (came t (Wrapped last))
        (first_is (Wrapped frame) e) (second_is frame (At last) k g) (whole_is (Wrapped last) f) refl refl refl
    composes_playing (folded frame last k l e f (inr g)) =
        composes_by t a b (came t (Wrapped frame)) (came t (Wrapped last)) (came t (Wrapped last))
        (first_is (Wrapped frame) e) (second_is frame (Wrapped last) k g) (whole_is (Wrapped last) f) refl refl refl
    composes_playing (over k e f) =
        composes_by t a b (came t Ended) _ (came t Ended) (first_is Ended e) (stays_put (moved_to t t.length Stopped) b refl) (whole_is Ended f) refl refl refl

  composes_idle : playing t.state ≡ false → Composes t a b
  composes_idle p = composes_by t a b _ _ _ (stays_put t a p) (stays_put t b p) (stays_put t (a + b) p) refl refl refl

  module _ (h : Reaches t (a + b)) (is : sound t ≡ true) where
    pub composes : Composes t a b
    composes = cases (playing t.state) (λ p. composes_playing p (h p) (carried t.length t.looping t.position a b (sound_loop_lem t is))) composes_idle

    pub calls_compose : CallsCompose t a b
    calls_compose = record {
      between = first.transport;
      last = second.transport;
      one = (first.moves.wrapped, first.moves.finished);
      two = (second.moves.wrapped, second.moves.finished);
      first = sym (advance_fit t a is);
      second = sym (advance_fit first.transport b (advanced_sound t is a));
      whole = sym (advance_fit t (a + b) is) ∙ moves_are (advanced t (a + b)) composes.ends composes.wraps composes.finishes;
    }
      where
        first : Run
        first = advanced t a

        second : Run
        second = advanced first.transport b

pub promised : Promised
promised = record {
  made = sound_made;
  stays = stays_sound;
  composes = λ t a b is h. composes t a b h is;
  calls = λ t a b is h. calls_compose t a b h is;
}
