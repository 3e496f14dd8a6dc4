-- The product of a numerator and 4 fits, so the machine reads it back as it is.
use mathlib.Core.Path.{ap, ◌∙◌}
use Prim.Native.Nat.{◌*◌}
use native.Mathlib.Omega.{arith}
use lib.IntN.{ℤ}
use Rattle.numbers.proofs.Laws.{read_pos}
use Rattle.beats.specs.Beats.{new_beat}
use Rattle.meter.specs.Meters.{len_of}
use Rattle.meter.proofs.MeterPoint.len.Goals as goal

pub returns : goal.returns
unfolding len_of
returns c =
    c.new.ensures ∙ ap (λ (z : ℤ). new_beat z c.args.self.denominator) (read_pos (c.args.self.numerator * 4) (omega arith))
