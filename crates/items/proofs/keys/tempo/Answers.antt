-- By how many words stand behind the key, and by what they say.
use Rattle.std.proofs.Common.{sym, ap, ◌∙◌}
use Rattle.std.proofs.lemmas.Result.{err_from_is_err_and}
use Rattle.splits.specs.Readings.{read_found}
use Rattle.items.specs.Items.{tempo_item, tempo_by}
use Rattle.items.proofs.keys.tempo.Goals as goal

pub returns-in_err-bits-in-One : goal.returns-in_err-bits-in-One
unfolding tempo_item tempo_by read_found
returns-in_err-bits-in-One c =
    let p = err_from_is_err_and c.from_residual.result c.from_residual.ensures.1 in
    rw (p.1, p.2, c.in-One.is) (ap tempo_by (sym c.in_err-bits-in-One.was ∙ c.tempo.ensures))

pub returns-in_ok-bits-in-One : goal.returns-in_ok-bits-in-One
unfolding tempo_item tempo_by read_found
returns-in_ok-bits-in-One c = rw c.in-One.is (ap tempo_by (sym c.in_ok-bits-in-One.was ∙ c.tempo.ensures))

pub returns-in-Two : goal.returns-in-Two
unfolding tempo_item read_found
returns-in-Two c = rw c.in-Two.is c.point.ensures

pub returns-in-Other : goal.returns-in-Other
unfolding tempo_item read_found
returns-in-Other c = rw c.in-Other.is
