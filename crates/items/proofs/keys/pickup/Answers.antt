-- By how many words stand behind the key, and by what the one says.
use Rattle.std.proofs.Common.{inl, inr, sym, ap, ◌∙◌}
use Rattle.std.proofs.lemmas.Result.{err_from_is_err_and}
use Rattle.splits.specs.Readings.{read_found}
use Rattle.items.specs.Items.{pickup_item, pickup_by}
use Rattle.items.proofs.keys.pickup.Goals as goal

pub returns-in_err-beat-in-One : goal.returns-in_err-beat-in-One
unfolding pickup_item pickup_by read_found
returns-in_err-beat-in-One c =
    let p = err_from_is_err_and c.from_residual.result c.from_residual.ensures.1 in
    rw (p.1, p.2, c.in-One.is) (ap pickup_by (sym c.in_err-beat-in-One.was ∙ c.beat.ensures))

pub returns-in_ok-beat-in-One : goal.returns-in_ok-beat-in-One
unfolding pickup_item pickup_by read_found
returns-in_ok-beat-in-One c = rw c.in-One.is (ap pickup_by (sym c.in_ok-beat-in-One.was ∙ c.beat.ensures))

pub returns-in-Two : goal.returns-in-Two
unfolding pickup_item read_found
returns-in-Two c = elim c.in-Two.is [ inl h ↦ rw h.2 | inr h ↦ rw h ]
