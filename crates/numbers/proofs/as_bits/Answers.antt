-- The machine's bits are the definition's.
use Rattle.std.proofs.Common.{ap, ◌∙◌, w64, of_z}
use Rattle.std.proofs.lemmas.Int.{to_z-of_z}
use Rattle.numbers.proofs.Bits.{machine_bits}
use Rattle.numbers.proofs.as_bits.Goals as goal

pub returns : goal.returns
returns c = c.cast_unsigned.ensures ∙ ap (of_z w64) (to_z-of_z w64 c.args.x c.ranges.x) ∙ machine_bits c.args.x
