-- What is asked of the records of a pass before some more are noted, and what is known of them afterwards.
use Rattle.std.specs.Prelude.{◌≡◌, cond, List, ℕ, ◌*◌}
use Rattle.std.proofs.lemmas.List.Edits.{sets}
use Rattle.problems.specs.declared.records.Code.{Code}
use Rattle.problems.specs.declared.records.Code.TheVariants.{ManyMeters, LaterBar, NoNumerator, BadDenominator, LowBar, ManyTempos, LaterBeat, BadTempo, NotAbove}
use Rattle.problems.specs.declared.records.Records.{Records}
use Rattle.tempo.specs.declared.map.TempoMap.{TempoMap}
use Rattle.problems.specs.Problems.{Problem, Listed, listed}
use Rattle.problems.specs.Passes.{Ready, Passed}

-- the numbers of document 01
abbrev pub number_of : Code → ℕ
number_of ManyMeters = 1
number_of LaterBar = 2
number_of NoNumerator = 3
number_of BadDenominator = 4
number_of LowBar = 5
number_of ManyTempos = 6
number_of LaterBeat = 7
number_of BadTempo = 8
number_of NotAbove = 9

abbrev pub IsReady : Records → List Problem → Type 0
IsReady records problems = Ready records.writing records.out.now records.count problems

-- the same lent words and the same pass
pub record Same (before after : Records) : Type 0 where
  pub lent : after.out.ghost_name ≡ before.out.ghost_name
  pub writing : after.writing ≡ before.writing

pub record Adds (before : Records) (problems : List Problem) (after : Records) : Type 0 where
  pub passed : Passed before.writing before.out.now before.count problems after.out.now after.count
  pub same : Same before after

-- the words of a record behind the others, where the pass writes
pub record Puts (before : Records) (record_words : List ℕ) (after : Records) : Type 0 where
  pub words : after.out.now ≡ cond before.writing (sets before.out.now (3 * before.count) record_words) before.out.now
  pub count : after.count ≡ before.count
  pub same : Same before after

-- the points of a tempo map, as they are listed
abbrev pub listed_in : TempoMap → List Listed
listed_in map = listed map.nums.now map.dens.now map.tempos.now
