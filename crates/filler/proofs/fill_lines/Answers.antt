-- The test's refusals change nothing; else the lists are such that the lines can be filled.
use Rattle.std.proofs.Common.{rules, length, ◌∙◌}
use Rattle.meter.specs.Meters.{points_of}
use Rattle.tempo.specs.Tempos.{tempo_points}
use Rattle.filler.specs.Fills.{bar_lines}
use Rattle.filler.proofs.Testing.{known, answered, after}
use Rattle.filler.proofs.fill_lines.Goals as goal

pub fill-requires : goal.fill-requires
fill-requires c = (known _ _ _ _ _ _ c.in_ok-map.ensures.test).1

pub returns-in_err-map-clause-result_value : goal.returns-in_err-map-clause-result_value
returns-in_err-map-clause-result_value c =
    let e = answered _ _ _ _ _ c.args.out.now c.in_err-map.ensures.test in search (rules, e)

pub returns-in_err-map-clause-out_after : goal.returns-in_err-map-clause-out_after
returns-in_err-map-clause-out_after c =
    after _ _ _ _ _ c.args.out.now c.in_err-map.ensures.test

pub returns : goal.returns
returns c =
    let e = c.in_ok-map.ensures.test in
    let lists = c.in_ok-map.ensures.lists in
    record {
      result_value = answered _ _ _ _ _ c.args.out.now e;
      out_after =
          c.fill.ensures
          ∙ (λ i. bar_lines c.args.t (points_of c.args.words.now) (tempo_points (lists.0 i) (lists.1 i) (lists.2 i)) (length c.args.out.now))
          ∙ after _ _ _ _ _ c.args.out.now e;
    }
