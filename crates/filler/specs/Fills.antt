-- The line filler, each bar asked by itself: the whole lent list, entry k with `frame_at_bar(k)`.
use Rattle.std.specs.Prelude.{cond, List, ℕ, leb, ℤ, length, Result, Ok, Err}
use Rattle.numbers.specs.Lists.{entries}
use Rattle.numbers.specs.Answers.{Answer, accepted, given}
use Rattle.meter.specs.declared.MeterPoint.{MeterPoint}
use Rattle.meter.specs.Meters.{points_of}
use Rattle.numbers.specs.declared.refusal.Refusal.{Refusal}
use Rattle.numbers.specs.declared.refusal.Refusal.TheVariants.{TooLong}
use Rattle.tempo.specs.Tempos.{TempoPoint, tempo_points}
use Rattle.transport.specs.declared.Transport.{Transport}
use Rattle.timeline.specs.Places.{frame_at_bar}
use Rattle.timeline.specs.Tests.{worse, maps_test, if_tested}

-- the first n bar lines
abbrev pub bar_lines : Transport → List MeterPoint → List TempoPoint → ℕ → List ℕ
bar_lines t map points n = entries (frame_at_bar t map points) 0 n

-- 4 over 65,536 bar lines
abbrev pub lines_test : ℕ → Result Unit Refusal
lines_test n = cond (leb n 65536) (Ok tt) (Err TooLong)

-- 12 of the transport, then 3, 4 and 1 of the lists, the lent one among them
abbrev pub fill_answer : Transport → List ℕ → List ℤ → List ℕ → List ℕ → List ℕ → Answer Unit
fill_answer t words nums dens tempos out = if_tested t (worse (lines_test (length out)) (maps_test words nums dens tempos)) (accepted tt)

-- the new words of a call that is accepted, and the old ones of a call that is refused
abbrev pub fill_after : Transport → List ℕ → List ℤ → List ℕ → List ℕ → List ℕ → List ℕ
fill_after t words nums dens tempos out =
    given (λ u. bar_lines t (points_of words) (tempo_points nums dens tempos) (length out)) (fill_answer t words nums dens tempos out) out
