-- The loop keeps that the laps left, written over the output as it is, give what all the laps give.
use Rattle.std.proofs.Common.{◌-◌}
use Rattle.cues.proofs.Writing.{Lapped}
use Rattle.cues.proofs.write.Stretch.write_laps.Given as goal

abbrev pub invariant-loop-lap : goal.invariant-loop-lap
invariant-loop-lap l =
    Lapped l.self.part.now l.initial.out l.at l.self.from l.lap l.self.place l.time l.laps l.out l.word l.begins (l.laps - l._lap)
