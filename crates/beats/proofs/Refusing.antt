-- The refusal by 1 comes before everything else.
use Rattle.std.proofs.Common.{◌≡◌, ◌<◌, Bool, true, false, cond, eqb, ltb, [], nat_abs, sym, ap, ltb-true, eqb-true}
use Rattle.numbers.specs.Answers.{Answer, refused}
use Rattle.numbers.specs.Divisor.{gcd_of}
use Rattle.numbers.proofs.Laws.{and_left, and_right}
use Rattle.beats.specs.declared.Beat.{Beat}
use Rattle.beats.specs.Beats.{is_beat}

-- `fine` is what is asked of the beats
module _ {A : Type 0} (fine : Bool) (answer : Answer A) where
  pub not_fine : fine ≡ false → refused 1 [] ≡ cond fine answer (refused 1 [])
  not_fine e = sym (ap (λ (t : Bool). cond t answer (refused 1 [])) e)

  pub is_fine : fine ≡ true → answer ≡ cond fine answer (refused 1 [])
  is_fine e = sym (ap (λ (t : Bool). cond t answer (refused 1 [])) e)

-- ---- what a beat is

module _ (beat : Beat) (e : is_beat beat ≡ true) where
  pub beat_above : 0 < beat.den
  beat_above = ltb-true 0 beat.den (and_left (ltb 0 beat.den) (eqb (gcd_of (nat_abs beat.num) beat.den) 1) e)

  pub beat_lowest : gcd_of (nat_abs beat.num) beat.den ≡ 1
  beat_lowest = eqb-true (gcd_of (nat_abs beat.num) beat.den) 1 (and_right (ltb 0 beat.den) (eqb (gcd_of (nat_abs beat.num) beat.den) 1) e)
