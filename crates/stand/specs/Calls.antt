-- What the exported calls answer: what the calls of the crates below answer, of the clock that the words are. A pickup of 0/0 is none.
use Rattle.std.specs.Prelude.{ℕ, List, ℤ}
use Rattle.numbers.specs.Answers.{Answer}
use Rattle.beats.specs.declared.Beat.{Beat}
use Rattle.meter.specs.Answers.{count_answer, start_answer}
use Rattle.timeline.specs.Answers.{frame_at_bar_answer}
use Rattle.filler.specs.Fills.{fill_answer, fill_after}
use Rattle.transport.specs.Changes.{Handed}
use Rattle.transport.specs.Advances.{Moves, advance_answer}
use Rattle.cues.specs.CueCall.{Said, cue_answer, cue_after}
use Rattle.clock_words.specs.Clocks.{pickup_of, clock_of}

-- how many bars have gone by at a beat
unfoldable pub counted : List ℕ → ℕ → ℤ → ℕ → Beat → Answer ℕ
counted meter beats num den beat = count_answer meter beats (pickup_of num den) beat

-- the beat at which a bar starts
unfoldable pub started : List ℕ → ℕ → ℤ → ℕ → ℕ → Answer Beat
started meter beats num den bar = start_answer meter beats (pickup_of num den) bar

-- the frame on which a bar starts
unfoldable pub framed : List ℕ → List ℕ → List ℤ → List ℕ → List ℕ → ℕ → Answer ℕ
framed clock meter nums dens tempos bar = frame_at_bar_answer (clock_of clock) bar meter nums dens tempos

-- a filling of bar lines, and the lines afterwards
unfoldable pub filled : List ℕ → List ℕ → List ℤ → List ℕ → List ℕ → List ℕ → Answer Unit
filled clock meter nums dens tempos lines = fill_answer (clock_of clock) meter nums dens tempos lines

unfoldable pub lines_after : List ℕ → List ℕ → List ℤ → List ℕ → List ℕ → List ℕ → List ℕ
lines_after clock meter nums dens tempos lines = fill_after (clock_of clock) meter nums dens tempos lines

-- an advance by so many frames
unfoldable pub advanced_by : List ℕ → ℕ → Handed Moves
advanced_by clock frames = advance_answer (clock_of clock) frames

-- a cue call, and the words of its cues afterwards
unfoldable pub cued : List ℕ → List ℕ → ℕ → List ℕ → Handed Said
cued clock lines frames cues = cue_answer (clock_of clock) lines frames cues

unfoldable pub cues_after : List ℕ → List ℕ → ℕ → List ℕ → List ℕ
cues_after clock lines frames cues = cue_after (clock_of clock) lines frames cues
