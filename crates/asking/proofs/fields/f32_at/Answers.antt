-- The two callees' equations, one in the other.
use Rattle.std.proofs.Common.{ap, ◌∙◌}
use lib.Ieee.{of_bits, binary32}
use Rattle.asking.proofs.fields.f32_at.Goals as goal

pub returns : goal.returns
returns c = c.f32_of.ensures ∙ ap (of_bits binary32) c.u32_at.ensures
