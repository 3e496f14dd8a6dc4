-- What a line of the text form says. Its first word is a key, and the key tells which words stand behind it.
use Rattle.std.specs.Prelude.{cond, List, [], ◌∷◌, ℕ, ◌+◌, eqb, length, Option, None, Some, Result, Ok, Err}
use Rattle.beats.specs.declared.Beat.{Beat}
use Rattle.spelling.specs.declared.BeatError.{BeatError}
use Rattle.spelling.specs.declared.BeatError.TheVariants as Why
use Rattle.spelling.specs.Words.{number_of, beat_of, tempo_of}
use Rattle.spelling.specs.Keys.{rate_key, beats_key, tempo_key, pickup_key, meter_key}
use Rattle.splits.specs.Splits.{other, past, part, Few, single, double, neither, few, same}
use Rattle.items.specs.declared.Reason.{Reason}
use Rattle.items.specs.declared.Reason.TheVariants.{Unknown, Words, NotNumber, NotBeat, NotLowest, NotTempo, NotMeter}
use Rattle.items.specs.declared.Item.{Item}
use Rattle.items.specs.declared.Item.TheVariants as I

-- ---- words

unfoldable pub number_value : Option ℕ → Result ℕ Reason
number_value (Some n) = Ok n
number_value None = Err NotNumber

unfoldable pub tempo_value : Option ℕ → Result ℕ Reason
tempo_value (Some bits) = Ok bits
tempo_value None = Err NotTempo

abbrev pub reason_of : BeatError → Reason
reason_of Why.NotNumber = NotBeat
reason_of Why.NotBeat = NotLowest

unfoldable pub beat_value : Result Beat BeatError → Result Beat Reason
beat_value (Ok beat) = Ok beat
beat_value (Err why) = Err (reason_of why)

-- ---- rate, beats: one number

unfoldable pub sole_number : Few → Result ℕ Reason
sole_number (single word) = number_value (number_of word)
sole_number (double one two) = Err Words
sole_number neither = Err Words

unfoldable pub rate_item : Result ℕ Reason → Result Item Reason
rate_item (Ok n) = Ok (I.Rate n)
rate_item (Err reason) = Err reason

unfoldable pub beats_item : Result ℕ Reason → Result Item Reason
beats_item (Ok n) = Ok (I.Beats n)
beats_item (Err reason) = Err reason

-- ---- tempo: a tempo; or a beat, and the tempo from there on

unfoldable pub tempo_by : Result ℕ Reason → Result Item Reason
tempo_by (Ok bits) = Ok (I.Tempo bits)
tempo_by (Err reason) = Err reason

-- a bad beat is told before a bad tempo
unfoldable pub point_by : Result Beat Reason → Result ℕ Reason → Result Item Reason
point_by (Err reason) value = Err reason
point_by (Ok beat) (Err reason) = Err reason
point_by (Ok beat) (Ok bits) = Ok (I.TempoPoint beat bits)

unfoldable pub point_item : List ℕ → List ℕ → Result Item Reason
point_item place word = point_by (beat_value (beat_of place)) (tempo_value (tempo_of word))

unfoldable pub tempo_item : Few → Result Item Reason
tempo_item (single word) = tempo_by (tempo_value (tempo_of word))
tempo_item (double place word) = point_item place word
tempo_item neither = Err Words

-- ---- pickup: a beat

unfoldable pub pickup_by : Result Beat Reason → Result Item Reason
pickup_by (Ok beat) = Ok (I.Pickup beat)
pickup_by (Err reason) = Err reason

unfoldable pub pickup_item : Few → Result Item Reason
pickup_item (single word) = pickup_by (beat_value (beat_of word))
pickup_item (double one two) = Err Words
pickup_item neither = Err Words

-- ---- meter: a bar, and the meter from there on, two numbers with a slash between

unfoldable pub meter_by : ℕ → Result ℕ Reason → Result ℕ Reason → Result Item Reason
meter_by bar (Err reason) den = Err reason
meter_by bar (Ok num) (Err reason) = Err reason
meter_by bar (Ok num) (Ok den) = Ok (I.MeterPoint bar num den)

-- the first slash, or the end of the word
abbrev pub slash_of : List ℕ → ℕ
slash_of word = past (other 47) word 0

unfoldable pub meter_over : ℕ → List ℕ → Result Item Reason
meter_over bar word =
    cond (eqb (slash_of word) (length word))
    (Err NotMeter)
    (meter_by bar (number_value (number_of (part word 0 (slash_of word)))) (number_value (number_of (part word (slash_of word + 1) (length word)))))

unfoldable pub bar_by : Result ℕ Reason → List ℕ → Result Item Reason
bar_by (Err reason) word = Err reason
bar_by (Ok bar) word = meter_over bar word

unfoldable pub meter_point : List ℕ → List ℕ → Result Item Reason
meter_point place word = bar_by (number_value (number_of place)) word

unfoldable pub meter_item : Few → Result Item Reason
meter_item (double place word) = meter_point place word
meter_item (single word) = Err Words
meter_item neither = Err Words

-- ---- the keys

unfoldable pub key_item : List ℕ → Few → Result Item Reason
key_item key behind =
    cond (same key rate_key)
    (rate_item (sole_number behind))
    (cond (same key beats_key)
    (beats_item (sole_number behind))
    (cond (same key tempo_key)
    (tempo_item behind)
    (cond (same key pickup_key) (pickup_item behind) (cond (same key meter_key) (meter_item behind) (Err Unknown)))))

abbrev pub held : Result Item Reason → Result (Option Item) Reason
held (Ok item) = Ok (Some item)
held (Err reason) = Err reason

-- what a line of these words says; where there are none, nothing
unfoldable pub item_of : List (List ℕ) → Result (Option Item) Reason
item_of [] = Ok None
item_of (key ∷ behind) = held (key_item key (few behind))
