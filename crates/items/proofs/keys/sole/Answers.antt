-- By how many words stand behind the key.
use Rattle.std.proofs.Common.{inl, inr}
use Rattle.splits.specs.Readings.{read_found}
use Rattle.items.specs.Items.{sole_number}
use Rattle.items.proofs.keys.sole.Goals as goal

pub returns-in-One : goal.returns-in-One
unfolding sole_number read_found
returns-in-One c = rw c.in-One.is c.number.ensures

pub returns-in-Two : goal.returns-in-Two
unfolding sole_number read_found
returns-in-Two c = elim c.in-Two.is [ inl h ↦ rw h.2 | inr h ↦ rw h ]
