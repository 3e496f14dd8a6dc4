-- The numbers, the room, then the pulses one by one.
use Rattle.std.proofs.Common.{◌≡◌, ℕ, ◌*◌, ◌++◌, length, drop, ap, ◌∙◌, arith, rules}
use Rattle.numbers.specs.Lists.{entries}
use Rattle.numbers.proofs.Laws.{entries_length}
use Rattle.notes.specs.Notes.{words_of}
use Rattle.rhythm.specs.Makes.{hit, pulse_step}
use Rattle.pattern.proofs.Outcomes.{no_room, wrote}
use Rattle.pattern.proofs.Pulses.{spread}
use Rattle.pattern.proofs.euclidean.Goals as goal

pub returns-then-pulses-out : goal.returns-then-pulses-out
returns-then-pulses-out c =
    let all = entries (λ (k : ℕ). hit c.args.len c.args.tag (pulse_step c.args.pulses c.args.steps k)) 0 c.args.pulses in
    let n : length all ≡ c.args.pulses = entries_length _ 0 c.args.pulses in
    no_room _ all _ _ (spread c.args.pulses c.args.steps c.args.tag c.args.len c.args.steps_per_bar c.if-steps-eq0.false c.if-pulses-steps.false) (omega arith)

pub returns : goal.returns
returns c =
    let all = entries (λ (k : ℕ). hit c.args.len c.args.tag (pulse_step c.args.pulses c.args.steps k)) 0 c.args.pulses in
    let n : length all ≡ c.args.pulses = entries_length _ 0 c.args.pulses in
    let e : 4 * c.args.pulses ≡ 4 * length all = omega arith in
    wrote _ all _ _ (spread c.args.pulses c.args.steps c.args.tag c.args.len c.args.steps_per_bar c.if-steps-eq0.false c.if-pulses-steps.false)
    (omega arith) c.of.result c.of.ensures (omega arith) c.bars_for.ensures
    (c.fill.ensures (pulse_step c.args.pulses c.args.steps) (λ k s h given. search rules) ∙ ap (λ (k : ℕ). words_of all ++ drop k c.args.out.now) e)
