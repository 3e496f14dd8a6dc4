-- The loop keeps that the words left, put over the output as it is, give what the whole gives.
use Rattle.cues.proofs.Writing.{Wrote}
use Rattle.cues.proofs.write.Stretch.write.Given as goal

abbrev pub invariant-loop-i : goal.invariant-loop-i
invariant-loop-i l =
    Wrote l.self.part.now l.initial.out l.at l.self.from l.self.place l.time l.out l.word l.i
