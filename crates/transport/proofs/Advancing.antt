-- One advance: where it comes to, what it keeps, and whether the transport still plays.
use mathlib.Core.Path.{◌≡◌, refl, ap, ◌∙◌}
use mathlib.Core.Bool.{Bool, true, false, cond, not, ◌&&◌}
use Prim.Native.Nat.{ℕ, ◌+◌, ◌-◌, ◌≤◌, ◌^◌}
use native.Mathlib.Omega.{arith}
use Rattle.numbers.proofs.Laws.{cases}
use Rattle.transport.specs.declared.PlayState.{PlayState}
use Rattle.transport.specs.declared.PlayState.TheVariants.{Playing}
use Rattle.transport.specs.declared.playhead.Stands.{Stands}
use Rattle.transport.specs.declared.playhead.Stands.TheVariants.{At, Wrapped, Ended}
use Rattle.transport.specs.declared.playhead.Run.{Run}
use Rattle.transport.specs.declared.Transport.{Transport}
use Rattle.transport.specs.Transports.{sound, playing, moved_to}
use Rattle.transport.specs.Advances.{reached, standing, came, ran, stayed, advanced}
use Rattle.transport.proofs.Loops.{sound_loop_lem}
use Rattle.transport.proofs.Carrying.{place_of, stands_within}

-- where the sum is a frame, it is reached
reached_is : (position frames : ℕ) → position + frames ≤ 2 ^ 64 - 1 → reached position frames ≡ position + frames
reached_is position frames h = omega arith

module _ (t : Transport) (frames : ℕ) where
  pub plays_on : playing t.state ≡ true → t.position + frames ≤ 2 ^ 64 - 1 → advanced t frames ≡ came t (standing t.length t.looping (t.position + frames))
  unfolding advanced
  plays_on p h =
      ap (λ (q : Bool). cond q (ran t frames) (stayed t)) p
      ∙ ap (λ (n : ℕ). came t (standing t.length t.looping n)) (reached_is t.position frames h)

  pub stays_put : playing t.state ≡ false → advanced t frames ≡ stayed t
  unfolding advanced
  stays_put p = ap (λ (q : Bool). cond q (ran t frames) (stayed t)) p

-- where it comes to does not depend on where it was
came_moved : (t : Transport) (position : ℕ) (state : PlayState) (place : Stands) → came (moved_to t position state) place ≡ came t place
came_moved t position state (At frame) = refl
came_moved t position state (Wrapped frame) = refl
came_moved t position state Ended = refl

pub plays_from : (t : Transport) (position frames : ℕ) → position + frames ≤ 2 ^ 64 - 1
    → advanced (moved_to t position Playing) frames ≡ came t (standing t.length t.looping (position + frames))
plays_from t position frames h = plays_on (moved_to t position Playing) frames refl h ∙ came_moved t position Playing (standing t.length t.looping (position + frames))

-- ---- what every advance does

-- where a transport stands that plays
abbrev pub place_after : Transport → ℕ → Stands
place_after t frames = standing t.length t.looping (reached t.position frames)

-- what holds of a transport that stays, and of one that comes to a place, holds of any advance
module _ (t : Transport) (frames : ℕ) (P : Run → Type 0) where
  pub by_playing : (playing t.state ≡ true → P (came t (place_after t frames))) → (playing t.state ≡ false → P (stayed t)) → P (advanced t frames)
  unfolding advanced
  by_playing f g = cases (playing t.state) (λ p. rw p (f p)) (λ p. rw p (g p))

module _ (t : Transport) where
  came_keeps : (place : Stands) → (came t place).transport ≡ moved_to t (came t place).transport.position (came t place).transport.state
  came_keeps (At frame) = refl
  came_keeps (Wrapped frame) = refl
  came_keeps Ended = refl

  came_plays : (place : Stands) → playing (came t place).transport.state ≡ not (came t place).moves.finished
  came_plays (At frame) = refl
  came_plays (Wrapped frame) = refl
  came_plays Ended = refl

  came_place : (place : Stands) → (came t place).transport.position ≡ place_of t.length place
  came_place (At frame) = refl
  came_place (Wrapped frame) = refl
  came_place Ended = refl

  module _ (frames : ℕ) where
    -- only the position and the state are new
    pub advanced_keeps : (advanced t frames).transport ≡ moved_to t (advanced t frames).transport.position (advanced t frames).transport.state
    advanced_keeps = by_playing t frames (λ (r : Run). r.transport ≡ moved_to t r.transport.position r.transport.state) (λ p. came_keeps (place_after t frames)) (λ p. refl)

    -- it still plays if it did and has not finished
    pub advanced_plays : playing (advanced t frames).transport.state ≡ (playing t.state && not (advanced t frames).moves.finished)
    advanced_plays = by_playing t frames (λ (r : Run). playing r.transport.state ≡ (playing t.state && not r.moves.finished))
        (λ p. rw p (came_plays (place_after t frames))) (λ p. rw p)

    -- it never comes past the sum
    pub advanced_low : sound t ≡ true → (advanced t frames).transport.position ≤ t.position + frames
    advanced_low is = by_playing t frames (λ (r : Run). r.transport.position ≤ t.position + frames)
        (λ p. omega (arith, came_place (place_after t frames), stands_within t.length t.looping (reached t.position frames) (sound_loop_lem t is))) (λ p. omega arith)
