-- The loop keeps a stand that serves the beat: a point that the walk passes, it passes for every later beat too.
use Rattle.std.proofs.Common.{◌≡◌}
use Rattle.filler.specs.Carried.{Serves}
use Rattle.filler.proofs.Serving.{stand}
use Rattle.filler.proofs.stands.Stand.walk_to.Given as goal

abbrev pub invariant-loop-i : goal.invariant-loop-i
invariant-loop-i l = record {
  own_beat : l.stand.beat ≡ l.beat;
  own_next : l.stand.next ≡ l.i;
  serves : Serves l.map.nums.now l.map.dens.now l.map.tempos.now l.beat (stand l.beat l.stand.secs l.stand.from l.stand.tempo l.i);
}
