-- Bits, or digits.
use Rattle.std.proofs.Common.{sym, ap, ◌∙◌, arith}
use Rattle.spelling.specs.Words.{bits_tempo}
use Rattle.splits.proofs.Laws.{part_rest}
use Rattle.spelling.proofs.Tempos.{ten_bytes, by_bits, by_digits}
use Rattle.spelling.proofs.points.tempo.Goals as goal

pub slice_bounds-bits-count : goal.slice_bounds-bits-count
slice_bounds-bits-count c = omega (arith, ten_bytes _ (sym c.is_bits.ensures ∙ c.if-is_bits.true))

pub slice_bounds-bits-start : goal.slice_bounds-bits-start
slice_bounds-bits-start c = omega (arith, ten_bytes _ (sym c.is_bits.ensures ∙ c.if-is_bits.true))

pub returns-then-is_bits : goal.returns-then-is_bits
returns-then-is_bits c =
    c.bits.ensures ∙ ap bits_tempo (part_rest 2 c.args.word.now) ∙ by_bits c.args.word.now (sym c.is_bits.ensures ∙ c.if-is_bits.true)

pub returns-else-is_bits : goal.returns-else-is_bits
returns-else-is_bits c = c.decimal.ensures ∙ by_digits _ (sym c.is_bits.ensures ∙ c.if-is_bits.false)
