-- A clock: a transport as eleven words of 64 bits, which a program that links these calls keeps in its own memory.
--
--     0 rate      1 bpm bits   2 beats a bar   3 length        4 position           5 state: 0 stopped, 1 playing, 2 paused
--     6 loop: 0 off, 1 on      7 loop start    8 loop end      9 pickup numerator   10 pickup denominator
use Rattle.std.specs.Prelude.{ℕ, Bool, cond, ◌&&◌, List, leb, eqb, ℤ, nat_abs, get_or, set, Option, Some, None}
use Rattle.std.specs.Float.{binary32}
use Rattle.std.specs.Float.Ieee.{of_bits}
use Rattle.numbers.specs.Bits.{signed_of}
use Rattle.beats.specs.declared.Beat.{Beat}
use Rattle.transport.specs.Words.{state_of, state_word, loop_of}
use Rattle.transport.specs.declared.PlayState.TheVariants.{Stopped}
use Rattle.transport.specs.declared.Transport.{Transport}

-- ---- reading

-- a word of 32 bits
abbrev pub short : ℕ → Bool
short word = leb word 4294967295

-- the words are a clock: rate, bpm bits, beats a bar and the pickup's denominator are of 32 bits, the state is at most 2, the loop 0 or 1
unfoldable pub clock_words : List ℕ → Bool
clock_words words =
    short (get_or words 0 0) && (short (get_or words 1 0) && (short (get_or words 2 0) && (short (get_or words 10 0) && (leb (get_or words 5 0) 2 && leb (get_or words 6 0) 1))))

-- 0/0 stands for none. Any other numerator over 0 is a pickup that is no beat
abbrev pub pickup_of : ℤ → ℕ → Option Beat
pickup_of num den = cond (eqb den 0 && eqb (nat_abs num) 0) None (Some (record { num = num; den = den }))

-- a transport past its own end, so unsound
abbrev pub unfit : Transport
unfit = record { sample_rate = 0; bpm = of_bits binary32 0; beats_per_bar = 0; length = 0; position = 1; state = Stopped; looping = None; pickup = None }

abbrev pub transport_of : List ℕ → Transport
transport_of words =
    record {
      sample_rate = get_or words 0 0;
      bpm = of_bits binary32 (get_or words 1 0);
      beats_per_bar = get_or words 2 0;
      length = get_or words 3 0;
      position = get_or words 4 0;
      state = state_of (get_or words 5 0);
      looping = loop_of (get_or words 6 0) (get_or words 7 0) (get_or words 8 0);
      pickup = pickup_of (signed_of (get_or words 9 0)) (get_or words 10 0);
    }

-- the transport of a clock. Words that are no clock are read as an unsound transport, which every call refuses by 12
unfoldable pub clock_of : List ℕ → Transport
clock_of words = cond (clock_words words) (transport_of words) unfit

-- ---- writing

-- the clock elsewhere: its position and its state are written, and no other word, so that a tempo keeps its own bits
unfoldable pub placed : List ℕ → Transport → List ℕ
placed words t = set (set words 4 t.position) 5 (state_word t.state)
