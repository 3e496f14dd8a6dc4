-- What is known of a sound transport and its loop.
use mathlib.Core.Path.{◌≡◌, ap, ◌∙◌}
use Prim.Native.Nat.{ℕ, ◌+◌, ◌-◌, ◌%◌, ◌≤◌, ◌<◌}
use native.Mathlib.Nat.{mod-lt, mod-eq_of_lt, mod-add-mod}
use native.Mathlib.Omega.{arith}
use mathlib.Core.Bool.{true, ◌&&◌}
use lib.Dec.{ltb, leb}
use borrow.Author.Tests.{ltb-true, leb-true}
use Rattle.numbers.proofs.Laws.{and_left, and_right}
use Rattle.meter.specs.Meters.{sound_pickup}
use Rattle.transport.specs.declared.LoopRange.{LoopRange}
use Rattle.std.specs.Prelude.{Option, Some}
use Rattle.transport.specs.declared.Transport.{Transport}
use Rattle.transport.specs.Transports.{good_loop, sound_loop, sound}
use Rattle.transport.specs.Advances.{fold}

-- a good loop starts before its end, which is at most the length
module _ (length start end : ℕ) (good : good_loop length start end ≡ true) where
  pub loop_starts : start < end
  loop_starts = ltb-true start end (and_left (ltb start end) (leb end length) good)

  pub loop_ends : end ≤ length
  loop_ends = leb-true end length (and_right (ltb start end) (leb end length) good)

-- the same of a sound loop that is on
pub on_sound : (length : ℕ) (looping : Option LoopRange) (start end : ℕ) → looping ≡ Some (record { start = start; end = end }) → sound_loop length looping ≡ true → (start < end) × (end ≤ length)
on_sound length looping start end on is = let good : good_loop length start end ≡ true = rw on at is in (loop_starts length start end good, loop_ends length start end good)

-- ---- folding

module _ (start end frame : ℕ) (h : start < end) where
  -- a folded frame is before the loop's end
  pub fold_lt : fold start end frame < end
  fold_lt = let m : (frame - start) % (end - start) < end - start = mod-lt (frame - start) (omega arith) in omega arith

  -- one in the loop stays where it is
  pub fold_within : start ≤ frame → frame < end → fold start end frame ≡ frame
  fold_within k l = let m : (frame - start) % (end - start) ≡ frame - start = mod-eq_of_lt (omega arith) in omega arith

  -- frames that go by after the fold come to where they would without it
  pub fold_more : (more : ℕ) → start ≤ frame → fold start end (fold start end frame + more) ≡ fold start end (frame + more)
  fold_more more k =
      ap (λ (n : ℕ). start + n % (end - start)) inner ∙ ap (λ (n : ℕ). start + n) (mod-add-mod (frame - start) (end - start) more) ∙ ap (λ (n : ℕ). start + n % (end - start)) outer
    where
      inner : fold start end frame + more - start ≡ (frame - start) % (end - start) + more
      inner = omega arith

      outer : (frame - start) + more ≡ (frame + more) - start
      outer = omega arith

-- ---- sound transports

-- the three things that a sound transport is
module _ (t : Transport) (is : sound t ≡ true) where
  pub sound_position : t.position ≤ t.length
  unfolding sound
  sound_position = leb-true t.position t.length (and_left (leb t.position t.length) (sound_loop t.length t.looping && sound_pickup t.pickup) is)

  behind : sound_loop t.length t.looping && sound_pickup t.pickup ≡ true
  unfolding sound
  behind = and_right (leb t.position t.length) (sound_loop t.length t.looping && sound_pickup t.pickup) is

  pub sound_loop_lem : sound_loop t.length t.looping ≡ true
  sound_loop_lem = and_left (sound_loop t.length t.looping) (sound_pickup t.pickup) behind

  pub sound_pickup_lem : sound_pickup t.pickup ≡ true
  sound_pickup_lem = and_right (sound_loop t.length t.looping) (sound_pickup t.pickup) behind
