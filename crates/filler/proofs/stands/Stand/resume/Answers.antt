-- A stand serves each beat that is not before its own, and the beginning serves every beat.
use Rattle.filler.proofs.Serving.{serves_later}
use Rattle.filler.proofs.stands.Stand.resume.Goals as goal

pub returns-then-self-beat : goal.returns-then-self-beat
returns-then-self-beat c =
    let map = c.args.map.now in
    serves_later map.nums.now map.dens.now map.tempos.now map.parallel c.args.self.beat c.args.beat c.args.self c.if-self-beat.true c.requires
