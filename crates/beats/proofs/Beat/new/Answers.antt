-- The divisor is not 0 and at most the denominator, so both quotients fit, and they are the definition's.
use Rattle.std.proofs.Common.{◌≡◌, ℕ, ◌/◌, ◌^◌, ◌<◌, ◌≤◌, max, ℤ, pos, nat_abs, sym, ap, ◌∙◌, div-le_self, arith, w64, SFits, to_z, of_z}
use lib.Signed.{quot_z}
use mir.ValLaws.{to_z-of_z, sfits_le}
use Rattle.numbers.specs.Divisor.{gcd_of}
use Rattle.beats.specs.Beats.{lowest, new_beat}
use Rattle.numbers.proofs.Laws.{gcd_pos, gcd_le, read_pos, mag_quot}
use Rattle.beats.proofs.Lowest.{kept}
use Rattle.beats.proofs.Beat.new.Goals as goal
use Rattle.beats.proofs.Beat.new.Reads as reads
use Rattle.beats.proofs.Beat.new.Tie as tie
use Rattle.beats.proofs.Beat.new.Lts as lts

-- what is known once the calls are made
record Known (num : ℤ) (den d g : ℕ) : Type 0 where
  fits : SFits w64 num
  small : den < 2 ^ 32
  d-is : d ≡ max den 1
  g-is : g ≡ gcd_of (nat_abs num) d

module _ {num : ℤ} {den d g : ℕ} (k : Known num den d g) where
  g-pos : 0 < g
  g-pos = rw k.g-is (gcd_pos (nat_abs num) d (omega arith))

  g-le : g ≤ d
  g-le = rw k.g-is (gcd_le (nat_abs num) d (omega arith))

  g-small : g < 2 ^ 63
  g-small = omega (arith, g-le)

  quot-read : quot_z (to_z w64 (of_z w64 num)) (to_z w64 g) ≡ quot_z num (pos g)
  quot-read = rw (to_z-of_z w64 num k.fits, read_pos g g-small)

  quot_fits : SFits w64 (quot_z num (pos g))
  quot_fits = sfits_le (mag_quot num g) k.fits

  made : record { num = to_z w64 (of_z w64 (quot_z (to_z w64 (of_z w64 num)) (to_z w64 g))); den = d / g } ≡ new_beat num den
  unfolding new_beat lowest
  made = rw (quot-read, to_z-of_z w64 (quot_z num (pos g)) quot_fits, k.g-is, k.d-is)

  unchanged : g ≡ 1 → record { num = to_z w64 (of_z w64 num); den = d } ≡ new_beat num den
  unchanged e = rw (to_z-of_z w64 num k.fits) (kept num d den k.d-is (sym k.g-is ∙ e))

known : (c : lts.After-gcd tie.the-claims reads.Pre reads.Post) → Known c.args.num c.args.den c.positive-d.result c.gcd-g.result
known c =
    record {
      fits = c.ranges.num;
      small = c.ranges.den.fits;
      d-is = c.positive-d.ensures;
      g-is = c.gcd-g.ensures ∙ ap (λ (a : ℕ). gcd_of a c.positive-d.result) (c.magnitude.ensures ∙ ap nat_abs (to_z-of_z w64 c.args.num c.ranges.num));
    }

pub returns-then-g-eq1 : goal.returns-then-g-eq1
returns-then-g-eq1 c = unchanged (known c.before) c.if-g-eq1.true

pub overflow_cast-result : goal.overflow_cast-result
overflow_cast-result c = record { sfits = g-small (known c.before) }

pub nonzero_div-result : goal.nonzero_div-result
nonzero_div-result c =
    let k = known c.before in
    (g-pos k, rw (quot-read k) (quot_fits k))

pub nonzero_div-result-2 : goal.nonzero_div-result-2
nonzero_div-result-2 c = g-pos (known c.before)

pub overflow_cast-result-3 : goal.overflow_cast-result-3
overflow_cast-result-3 c =
    omega (arith, div-le_self c.positive-d.result c.gcd-g.result, known c.before)

pub returns : goal.returns
returns c = made (known c.before)
