-- Where a playhead stands that is carried on from where it stood. There are three cases, and each has the equations that an advance in two steps needs.
use mathlib.Core.Path.{◌≡◌, sym, ap, ◌∙◌}
use mathlib.Core.Logic.{◌⊎◌, inl, inr}
use mathlib.Core.Bool.{true}
use Prim.Native.Nat.{ℕ, min, ◌+◌, ◌≤◌, ◌<◌}
use native.Mathlib.Nat.{add_assoc}
use native.Mathlib.Omega.{arith}
use borrow.Author.Tests.{le-leb, lt-leb}
use Rattle.numbers.proofs.Laws.{by_order}
use Rattle.transport.specs.declared.LoopRange.{LoopRange}
use Rattle.std.specs.Prelude.{Option, Some, None}
use Rattle.transport.specs.declared.playhead.Stands.{Stands}
use Rattle.transport.specs.declared.playhead.Stands.TheVariants.{At, Wrapped, Ended}
use Rattle.transport.specs.Transports.{sound_loop}
use Rattle.transport.specs.Advances.{fold, standing}
use Rattle.transport.proofs.Loops.{loop_starts, loop_ends, fold_lt, fold_within, fold_more}

-- a playhead at a position, after a frames and after b more
pub data Carried (length : ℕ) (looping : Option LoopRange) (position a b : ℕ) : Type 0 where
  -- it goes on: what is left is the run of b frames from there
  went : position + a < length → standing length looping (position + a) ≡ At (position + a) → standing length looping (position + (a + b)) ≡ standing length looping ((position + a) + b)
      → Carried length looping position a b
  -- it wraps: so does the whole, and the run of b frames comes to where the whole does
  folded : (frame last : ℕ) → frame ≤ position + a → frame < length → standing length looping (position + a) ≡ Wrapped frame → standing length looping (position + (a + b)) ≡ Wrapped last
      → (standing length looping (frame + b) ≡ At last) ⊎ (standing length looping (frame + b) ≡ Wrapped last) → Carried length looping position a b
  -- it ends: so does the whole
  over : length ≤ position + a → standing length looping (position + a) ≡ Ended → standing length looping (position + (a + b)) ≡ Ended → Carried length looping position a b

-- ---- where a frame stands, by the tests

module _ (length frame : ℕ) where
  stands_off : frame < length → standing length None frame ≡ At frame
  stands_off h = simp (lt-leb _ _ h)

  stands_ended : length ≤ frame → standing length None frame ≡ Ended
  stands_ended h = simp (le-leb _ _ h)

module _ (length start end frame : ℕ) where
  stands_before : end ≤ length → frame < end → standing length (Some (record { start = start; end = end })) frame ≡ At frame
  stands_before k h = simp (lt-leb _ _ h, lt-leb length frame (omega arith))

  stands_folded : end ≤ frame → standing length (Some (record { start = start; end = end })) frame ≡ Wrapped (fold start end frame)
  stands_folded h = simp (le-leb _ _ h)

-- ---- where a playhead is

abbrev pub place_of : ℕ → Stands → ℕ
place_of length (At frame) = frame
place_of length (Wrapped frame) = frame
place_of length Ended = length

-- at most at the length, and at most at the frame that it was carried to
pub stands_within : (length : ℕ) (looping : Option LoopRange) (frame : ℕ) → sound_loop length looping ≡ true → place_of length (standing length looping frame) ≤ min frame length
stands_within length None frame is = by_order frame length (λ h. rw (stands_off length frame h) (omega arith)) (λ h. rw (stands_ended length frame h) (omega arith))
stands_within length (Some range) frame is =
    let k : range.end ≤ length = loop_ends length range.start range.end is in
    by_order frame range.end
    (λ h. rw (stands_before length range.start range.end frame k h) (omega arith))
    (λ h. rw (stands_folded length range.start range.end frame h) (omega (arith, fold_lt range.start range.end frame (loop_starts length range.start range.end is))))

-- ---- the cases

module _ (length position a b : ℕ) where
  carried_off : Carried length None position a b
  carried_off = by_order (position + a) length
      (λ h. went h (stands_off length (position + a) h) (ap (standing length None) (sym (add_assoc position a b))))
      (λ h. over h (stands_ended length (position + a) h) (stands_ended length (position + (a + b)) (omega arith)))

  carried_on : (start end : ℕ) → start < end → end ≤ length → Carried length (Some (record { start = start; end = end })) position a b
  carried_on start end h k = by_order (position + a) end
      (λ before. went (omega arith) (stands_before length start end (position + a) k before) (ap (standing length (Some (record { start = start; end = end }))) (sym (add_assoc position a b))))
      (λ past. folded (at (position + a)) (at (position + (a + b))) (omega (arith, inside past)) (omega (arith, inside past)) (stands_folded length start end (position + a) past)
      (stands_folded length start end (position + (a + b)) (omega arith)) (then past))
    where
      at : ℕ → ℕ
      at frame = fold start end frame

      inside : end ≤ position + a → at (position + a) < end
      inside past = fold_lt start end (position + a) h

      same : end ≤ position + a → at (at (position + a) + b) ≡ at (position + (a + b))
      same past = fold_more start end (position + a) h b (omega arith) ∙ ap at (add_assoc position a b)

      then : end ≤ position + a
          → (standing length (Some (record { start = start; end = end })) (at (position + a) + b) ≡ At (at (position + (a + b)))) ⊎ (standing length (Some (record { start = start; end = end })) (at (position + a) + b) ≡ Wrapped (at (position + (a + b))))
      then past = by_order (at (position + a) + b) end
          (λ short. inl (stands_before length start end (at (position + a) + b) k short ∙ ap At (sym (fold_within start end (at (position + a) + b) h (omega arith) short) ∙ same past)))
          (λ long. inr (stands_folded length start end (at (position + a) + b) long ∙ ap Wrapped (same past)))

pub carried : (length : ℕ) (looping : Option LoopRange) (position a b : ℕ) → sound_loop length looping ≡ true → Carried length looping position a b
carried length None position a b is = carried_off length position a b
carried length (Some range) position a b is = carried_on length position a b range.start range.end (loop_starts length range.start range.end is) (loop_ends length range.start range.end is)
