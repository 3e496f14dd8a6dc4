-- The loop keeps that the laps left, written over the output as it is, give what all the laps give.
use Rattle.std.proofs.Common.{◌≡◌, ℕ, ◌+◌, ◌-◌, sym, ◌∙◌, subst, eqb-true, rules, arith}
use Rattle.cues.proofs.Writing.{Lapped, none_written, lap_writes, laps_again}
use Rattle.cues.proofs.write.Stretch.write_laps.Goals as goal

pub returns-then-is_empty : goal.returns-then-is_empty
returns-then-is_empty c =
    let e = none_written c.args.self.part.now c.args.out.now c.args.at c.args.self.from c.args.lap c.args.self.place c.args.time c.args.laps
    (eqb-true _ 0 (sym c.is_empty.ensures ∙ c.if-is_empty.true)) in
    record { next = e.0; words = e.1 }

pub write-word-requires : goal.write-word-requires
write-word-requires c =
    lap_writes c.args.self.part.now c.args.out.now c.args.at c.args.self.from c.args.lap c.args.self.place c.args.time c.args.laps
    _ _ _ _ c.loop-lap.invariant (omega arith) c.requires

pub loop-lap-preserved : goal.loop-lap-preserved
loop-lap-preserved c =
    let fewer : c.args.laps - c.loop-lap._lap - 1 ≡ c.args.laps - (c.loop-lap._lap + 1) = omega arith in
    subst (λ (left : ℕ). Lapped c.args.self.part.now c.args.out.now c.args.at c.args.self.from c.args.lap c.args.self.place c.args.time c.args.laps c.write-word.new.out c.write-word.result (c.loop-lap.begins + c.args.lap) left) fewer
    (laps_again c.args.self.part.now c.args.out.now c.args.at c.args.self.from c.args.lap c.args.self.place c.args.time c.args.laps
    _ _ _ _ c.loop-lap.invariant (omega arith) c.write-word.result c.write-word.new.out (search rules) (c.write-word.ensures.next, c.write-word.ensures.words))
