-- By how many words stand behind the key.
use Rattle.std.proofs.Common.{inl, inr}
use Rattle.splits.specs.Readings.{read_found}
use Rattle.items.specs.Items.{meter_item}
use Rattle.items.proofs.keys.meter.Goals as goal

pub returns-in-Two : goal.returns-in-Two
unfolding meter_item read_found
returns-in-Two c = rw c.in-Two.is c.meter_point.ensures

pub returns-in-One : goal.returns-in-One
unfolding meter_item read_found
returns-in-One c = elim c.in-One.is [ inl h ↦ rw h.1 | inr h ↦ rw h ]
