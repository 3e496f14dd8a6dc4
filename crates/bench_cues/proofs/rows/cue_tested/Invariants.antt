-- The transport stays sound.
use Rattle.std.proofs.Common.{◌≡◌, true}
use Rattle.transport.specs.Transports.{sound}
use Rattle.bench_cues.proofs.rows.cue_tested.Given as goal

abbrev pub invariant-loop : goal.invariant-loop
invariant-loop l = sound l.now ≡ true
