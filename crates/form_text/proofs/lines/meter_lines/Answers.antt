-- The lines of the points so far are put, and the words behind them are left.
use Rattle.std.proofs.Common.{◌≡◌, rules, sym, ap, ◌∙◌, arith, ◌+◌, ◌*◌, ◌/◌, ◌++◌, ◌∷◌, [], length, length-append, length-drop}
use Rattle.text.proofs.Laws.{append_as}
use Rattle.form_text.specs.Forms.{meter_lines}
use Rattle.form_text.proofs.Rows.{no_meters, next_meter, word_of, left_behind, words_long}
use Rattle.form_text.proofs.lines.meter_lines.Goals as goal

pub loop-point-init : goal.loop-point-init
loop-point-init c = (search rules, search rules, omega arith, omega arith, no_meters _ _)

pub loop-point-preserved : goal.loop-point-preserved
loop-point-preserved c =
    let s = c.in-Some.ensures.steps in
    let i = c.loop-point.invariant in
    let k = length c.loop-point.yielded in
    let n : length (c.loop-point.yielded ++ (c.in-Some.point ∷ [])) ≡ k + 1 = length-append c.loop-point.yielded (c.in-Some.point ∷ []) in
    let long : length c.in-Some.point.now ≡ 3 = s.1.1 ∙ i.0 in
    let e = sym i.1 ∙ s.1.0 in
    let word = word_of c.args.words.now c.in-Some.point.now c.next.new.self.rest.now (3 * k) e in
    rw n (
      s.0 ∙ i.0,
      left_behind c.args.words.now c.in-Some.point.now c.next.new.self.rest.now (3 * k) e (3 * (k + 1)) (omega arith),
      omega (arith, words_long c.args.words.now c.in-Some.point.now c.next.new.self.rest.now (3 * k) e (omega arith)),
      omega arith,
      next_meter (omega arith) c.args.words.now k i.4 (word 0 (3 * k) (omega arith) (omega arith)) (word 1 (3 * k + 1) (omega arith) (omega arith)) (word 2 (3 * k + 2) (omega arith) (omega arith)) c.meter_line.ensures.puts,
    )

pub returns : goal.returns
returns c =
    let i = c.loop-point.invariant in
    let left = ap length i.1 ∙ length-drop (3 * length c.loop-point.yielded) c.args.words.now in
    let all : length c.loop-point.yielded ≡ length c.args.words.now / 3 = omega (arith, left, c.in-None.ensures) in
    record { puts = append_as (ap (meter_lines c.args.words.now) all) i.4; upper_bound = omega arith }
