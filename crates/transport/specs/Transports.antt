-- A transport as a value: when it is sound, and how it is made and changed.
use Rattle.std.specs.Prelude.{Bool, true, false, ◌&&◌, ℕ, min, max, ◌-◌, ◌^◌, leb, ltb, Float, Option, Some, None}
use Rattle.numbers.specs.Answers.{Answer, accepted}
use Rattle.beats.specs.declared.Beat.{Beat}
use Rattle.meter.specs.Meters.{sound_pickup}
use Rattle.meter.specs.Answers.{if_pickup}
use Rattle.transport.specs.declared.PlayState.{PlayState}
use Rattle.transport.specs.declared.PlayState.TheVariants.{Stopped, Playing, Paused}
use Rattle.transport.specs.declared.LoopRange.{LoopRange}
use Rattle.transport.specs.declared.Transport.{Transport}

-- ---- sound

-- a loop starts before its end, and ends at the length or before; else it is bad by 9
abbrev pub good_loop : ℕ → ℕ → ℕ → Bool
good_loop length start end = ltb start end && leb end length

abbrev pub sound_loop : ℕ → Option LoopRange → Bool
sound_loop length None = true
sound_loop length (Some range) = good_loop length range.start range.end

-- the position is at most the length, the loop not bad by 9, the pickup not bad by 1; else the transport is refused by 12
unfoldable pub sound : Transport → Bool
sound t = leb t.position t.length && (sound_loop t.length t.looping && sound_pickup t.pickup)

abbrev pub playing : PlayState → Bool
playing Playing = true
playing Stopped = false
playing Paused = false

-- ---- making one

-- stopped at frame 0, with no loop; 0 beats a bar count as 1
abbrev pub made : ℕ → Float → ℕ → ℕ → Option Beat → Transport
made rate bpm beats length pickup =
    record { sample_rate = rate; bpm = bpm; beats_per_bar = max beats 1; length = length; position = 0; state = Stopped; looping = None; pickup = pickup }

-- its length is the greatest frame
abbrev pub constant_at : ℕ → Float → ℕ → Transport
constant_at rate bpm beats = made rate bpm beats (2 ^ 64 - 1) None

-- 1 where the pickup is no beat
abbrev pub made_answer : ℕ → Float → ℕ → ℕ → Option Beat → Answer Transport
made_answer rate bpm beats length pickup = if_pickup pickup (accepted (made rate bpm beats length pickup))

-- ---- changing one

-- the same transport elsewhere, playing or not
abbrev pub moved_to : Transport → ℕ → PlayState → Transport
moved_to t position state =
    record {
      sample_rate = t.sample_rate;
      bpm = t.bpm;
      beats_per_bar = t.beats_per_bar;
      length = t.length;
      position = position;
      state = state;
      looping = t.looping;
      pickup = t.pickup;
    }

-- the same transport with another loop
abbrev pub looping_by : Transport → Option LoopRange → Transport
looping_by t looping =
    record {
      sample_rate = t.sample_rate;
      bpm = t.bpm;
      beats_per_bar = t.beats_per_bar;
      length = t.length;
      position = t.position;
      state = t.state;
      looping = looping;
      pickup = t.pickup;
    }

-- at the frame, or at the end where that is nearer
abbrev pub seek_to : Transport → ℕ → Transport
seek_to t frame = moved_to t (min frame t.length) t.state
