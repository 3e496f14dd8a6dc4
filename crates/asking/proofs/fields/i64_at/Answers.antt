-- The two callees' equations, one in the other.
use Rattle.std.proofs.Common.{ap, ◌∙◌, w64}
use mir.ValLaws.{to_z-of_z}
use Rattle.numbers.specs.Bits.{signed_of}
use Rattle.asking.proofs.fields.i64_at.Goals as goal

pub returns : goal.returns
returns c =
    to_z-of_z w64 c.as_signed.result (record { sfits = c.as_signed.type_inv })
    ∙ c.as_signed.ensures
    ∙ ap signed_of c.u64_at.ensures
