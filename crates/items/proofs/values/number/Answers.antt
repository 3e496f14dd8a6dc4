-- By what the word says.
use Rattle.std.proofs.Common.{ap, ◌∙◌}
use Rattle.items.specs.Items.{number_value}
use Rattle.items.proofs.Tests.{number_is}
use Rattle.items.proofs.values.number.Goals as goal

pub returns : goal.returns
returns c = c.ok_or.ensures.value ∙ number_is _ ∙ ap number_value c.number.ensures
