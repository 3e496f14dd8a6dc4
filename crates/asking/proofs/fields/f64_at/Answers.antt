-- The two callees' equations, one in the other.
use Rattle.std.proofs.Common.{ap, ◌∙◌}
use lib.Ieee.{of_bits, binary64}
use Rattle.asking.proofs.fields.f64_at.Goals as goal

pub returns : goal.returns
returns c = c.f64_of.ensures ∙ ap (of_bits binary64) c.u64_at.ensures
