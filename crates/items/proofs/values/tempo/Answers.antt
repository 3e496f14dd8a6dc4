-- By what the word says.
use Rattle.std.proofs.Common.{ap, ◌∙◌}
use Rattle.items.specs.Items.{tempo_value}
use Rattle.items.proofs.Tests.{tempo_is}
use Rattle.items.proofs.values.tempo.Goals as goal

pub returns : goal.returns
returns c = c.ok_or.ensures.value ∙ tempo_is _ ∙ ap tempo_value c.tempo.ensures
