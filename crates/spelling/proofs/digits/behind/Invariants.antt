-- What is to be read stays the number so far and the bytes that are left.
use Rattle.std.proofs.Common.{◌≡◌, ◌≤◌, drop}
use Rattle.spelling.specs.Words.{number_by}
use Rattle.spelling.proofs.digits.behind.Given as goal

abbrev pub invariant-loop-byte : goal.invariant-loop-byte
invariant-loop-byte l = (l.n ≤ l.limit) × (number_by l.base l.limit l.front l.word ≡ number_by l.base l.limit l.n (drop l.byte-index l.word))
