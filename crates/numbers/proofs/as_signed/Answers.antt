-- The machine's number of bits is the definition's.
use Rattle.std.proofs.Common.{ℤ, ap, ◌∙◌, w64, to_z, of_z}
use Rattle.std.proofs.lemmas.Int.{of_z-to_z}
use Rattle.numbers.proofs.Bits.{machine_signed}
use Rattle.numbers.proofs.as_signed.Goals as goal

pub returns : goal.returns
returns c =
    ap (λ (z : ℤ). to_z w64 (of_z w64 z)) c.cast_signed.ensures
    ∙ ap (to_z w64) (of_z-to_z w64 c.args.bits c.ranges.bits.fits)
    ∙ machine_signed c.args.bits
