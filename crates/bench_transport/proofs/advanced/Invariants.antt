-- The transport stays sound.
use Rattle.std.proofs.Common.{◌≡◌, true}
use Rattle.transport.specs.Transports.{sound}
use Rattle.bench_transport.proofs.advanced.Given as goal

abbrev pub invariant-loop-i : goal.invariant-loop-i
invariant-loop-i l = sound l.t ≡ true
