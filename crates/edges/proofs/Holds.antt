-- Every edge of the table holds, by computing.
use Rattle.std.proofs.Common.{refl}
use Rattle.numbers.specs.Answers.{Agree}
use Rattle.numbers.specs.Divisor.{gcd_of, remainders}
use Rattle.numbers.specs.Lists.{entries}
use Rattle.beats.specs.Beats.{new_beat, lowest}
use Rattle.beats.specs.Sums.{fitted}
use Rattle.meter.specs.Meters.{points_of, later, last_at, len_of, bar_len, nearer, next_change}
use Rattle.meter.specs.Starts.{after_bars, segments, start_of}
use Rattle.meter.specs.Counts.{doubling, halving, searched, reaches, count_at}
use Rattle.transport.specs.Transports.{sound}
use Rattle.transport.specs.Advances.{advanced}
use Rattle.lines.specs.Lines.{ascends_from}
use Rattle.notes.specs.Notes.{notes_of}
use Rattle.notes.specs.Sorting.{insert, sort_by_step}
use Rattle.rhythm.specs.Values.{remainder}
use Rattle.rhythm.specs.Makes.{hits_from}
use Rattle.edges.specs.Edges.{answer, table}

pub holds : Agree answer table
unfolding new_beat lowest gcd_of remainders fitted points_of later last_at len_of bar_len nearer next_change after_bars segments start_of doubling halving searched reaches count_at sound advanced ascends_from notes_of insert sort_by_step remainder hits_from entries
holds = refl
