-- The words that were found.
use Rattle.splits.specs.declared.found.Found.{Found}
use Rattle.splits.specs.declared.found.Found.TheVariants.{One, Two, Other}
use Rattle.splits.specs.Splits.{Few, single, double, neither}

unfoldable pub read_found : Found → Few
read_found (One word) = single word.now
read_found (Two word second) = double word.now second.now
read_found Other = neither
