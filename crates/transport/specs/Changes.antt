-- The calls that change a transport. Each refuses an unsound one by 12, and a refusal hands back the old transport.
use Rattle.std.specs.Prelude.{cond, [], ℕ, Some, None}
use Rattle.numbers.specs.Answers.{Answer, accepted, refused}
use Rattle.transport.specs.declared.PlayState.TheVariants.{Stopped, Playing, Paused}
use Rattle.transport.specs.declared.Transport.{Transport}
use Rattle.transport.specs.Transports.{sound, good_loop, moved_to, looping_by, seek_to}

-- what a call answers, and the transport that it hands back
pub record Handed (A : Type 0) : Type 0 where
  pub transport : Transport
  pub answer : Answer A

-- 12 where the transport is unsound
abbrev pub if_transport : {A : Type 0} → Transport → Answer A → Answer A
if_transport t answer = cond (sound t) answer (refused 12 [])

-- the new transport where the change is accepted, and else the old one
abbrev pub handed : Transport → Answer Transport → Handed Unit
handed t (accepted new) = record { transport = new; answer = accepted tt }
handed t (refused number facts) = record { transport = t; answer = refused number facts }

-- the new transport where neither 12 nor the change itself refuses, and else the old one
abbrev pub if_sound : Transport → Answer Transport → Handed Unit
if_sound t change = handed t (if_transport t change)

abbrev pub play_answer : Transport → Handed Unit
play_answer t = if_sound t (accepted (moved_to t t.position Playing))

abbrev pub pause_answer : Transport → Handed Unit
pause_answer t = if_sound t (accepted (moved_to t t.position Paused))

-- at frame 0
abbrev pub stop_answer : Transport → Handed Unit
stop_answer t = if_sound t (accepted (moved_to t 0 Stopped))

abbrev pub seek_answer : Transport → ℕ → Handed Unit
seek_answer t frame = if_sound t (accepted (seek_to t frame))

-- 9 where the loop is bad
abbrev pub loop_change : Transport → ℕ → ℕ → Answer Transport
loop_change t start end = cond (good_loop t.length start end) (accepted (looping_by t (Some (record { start = start; end = end })))) (refused 9 [])

abbrev pub loop_answer : Transport → ℕ → ℕ → Handed Unit
loop_answer t start end = if_sound t (loop_change t start end)

abbrev pub unloop_answer : Transport → Handed Unit
unloop_answer t = if_sound t (accepted (looping_by t None))
