-- The start of bar 1 is 0 and the length of bar 0, a sum that nothing refuses: it is that length in lowest terms.
use Rattle.std.proofs.Common.{◌≡◌, ℕ, ◌≤◌, ◌*◌, ℤ, pos, ◌+ℤ◌, ◌*ℤ◌, true, ap, sym, ◌∙◌, w64, arith, rules}
use mir.ValLaws.{to_z-of_z}
use Rattle.std.proofs.Math.IntN.{zero-*ℤ, *ℤ-one, +ℤ_idl}
use Rattle.numbers.specs.Signs.{fits_i64}
use Rattle.numbers.proofs.Laws.{unstopped}
use Rattle.beats.specs.Beats.{new_beat, zero_beat}
use Rattle.beats.specs.Sums.{add_beats, fitted, or_most}
use Rattle.beats.proofs.Fitted.{done}
use Rattle.meter.specs.Starts.{opening_of}
use Rattle.meter.proofs.bars.MeterMap.open.Goals as goal

-- 0 beats and num / den
from_zero : (num : ℤ) (den : ℕ) → fits_i64 num ≡ true → den ≤ 4294967295 → new_beat num den ≡ or_most (add_beats zero_beat (record { num = num; den = den }))
unfolding lib.IntN.one
from_zero num den f h =
    let n : num ≡ pos 0 *ℤ pos den +ℤ num *ℤ pos 1 = sym ((λ i. zero-*ℤ (pos den) i +ℤ *ℤ-one num i) ∙ +ℤ_idl num) in
    let d : den ≡ 1 * den = omega arith in
    ap or_most (done num den (new_beat num den) f h (ap (λ (z : ℤ). new_beat z den) (sym (unstopped num f))) ∙ (λ i. fitted (n i) (d i)))

pub invariant_of-result : goal.invariant_of-result
unfolding opening_of
invariant_of-result c =
    let f : fits_i64 c.length-num.result.num ≡ true = search rules in
    let h : c.length-num.result.den ≤ 4294967295 = search rules in
    let read = to_z-of_z w64 c.length-num.result.num (search rules) in
    let one = c.new-one.ensures ∙ ap (λ (z : ℤ). new_beat z c.length-num.result.den) read ∙ from_zero c.length-num.result.num c.length-num.result.den f h ∙ ap (λ b. or_most (add_beats zero_beat b)) c.length-num.ensures in
    record { opened = sym (λ i. (c.ascending.ensures i, one i)) }
