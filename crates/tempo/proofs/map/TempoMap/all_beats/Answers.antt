-- The test of the pairs, as the definition takes the two lists apart.
use Rattle.std.proofs.Common.{rules, ◌∙◌}
use Rattle.std.proofs.lemmas.Iterator.{YieldsList-from_slice, YieldsList-from_zip}
use Rattle.std.proofs.lemmas.Iterator.Search.{all_from_yields_List}
use Rattle.tempo.proofs.Walking.{is_beat_of, all_pairs}
use Rattle.tempo.proofs.map.TempoMap.all_beats.Goals as goal

pub returns : goal.returns
returns c =
    all_from_yields_List is_beat_of c.all.new.self _ _ c.all.ensures.ran (YieldsList-from_zip (YieldsList-from_slice c.args.self.now.nums.now cc) (YieldsList-from_slice c.args.self.now.dens.now cc))
    (λ x r q k. search rules)
    ∙ all_pairs c.args.self.now.nums.now c.args.self.now.dens.now
