-- What a line says has its beats in lowest terms, and no line is wrong for the writer's reason.
use mathlib.Core.Path.{◌≡◌, refl}
use mathlib.Core.Bool.{Bool, true, false, cond}
use mathlib.Core.List.{List, [], ◌∷◌}
use Prim.Native.Nat.{ℕ, ◌+◌, ◌≤◌}
use native.Mathlib.Omega.{arith}
use lib.Dec.{eqb}
use lib.ListN.{length, take}
use Rattle.std.proofs.Common.{ℤ, Option, None, Some, Result, Ok, Err}
use Rattle.beats.specs.declared.Beat.{Beat}
use Rattle.beats.specs.Beats.{is_beat}
use Rattle.spelling.specs.declared.BeatError.{BeatError}
use Rattle.spelling.specs.declared.BeatError.TheVariants as Why
use Rattle.spelling.specs.Keys.{rate_key, beats_key, tempo_key, pickup_key, meter_key}
use Rattle.spelling.specs.Words.{number_of, numerator_of, denominator_of, fraction_of, beat_of, tempo_of}
use Rattle.splits.specs.Splits.{other, run, part, Few, single, double, neither, few, same}
use Rattle.items.specs.declared.Reason.{Reason}
use Rattle.items.specs.declared.Reason.TheVariants.{Unknown, Words, NotNumber, NotBeat, NotLowest, NotTempo, NotMeter, Unwritten}
use Rattle.items.specs.declared.Item.{Item}
use Rattle.items.specs.declared.Item.TheVariants as I
use Rattle.items.specs.Items.{number_value, tempo_value, beat_value, sole_number, rate_item, beats_item, tempo_by, point_by, point_item, tempo_item, pickup_by, pickup_item}
use Rattle.items.specs.Items.{meter_by, slash_of, meter_over, bar_by, meter_point, meter_item, key_item, held, item_of}

-- a reason that a line can have
abbrev pub Told : Reason → Type 0
Told reason = reason ≡ Unwritten → ⊥

abbrev pub FineItem : Item → Type 0
FineItem (I.Rate n) = 0 ≤ 0
FineItem (I.Beats n) = 0 ≤ 0
FineItem (I.Tempo bits) = 0 ≤ 0
FineItem (I.Pickup beat) = is_beat beat ≡ true
FineItem (I.MeterPoint bar num den) = 0 ≤ 0
FineItem (I.TempoPoint beat bits) = is_beat beat ≡ true

abbrev pub Fine : Result (Option Item) Reason → Type 0
Fine (Ok None) = 0 ≤ 0
Fine (Ok (Some item)) = FineItem item
Fine (Err reason) = Told reason

abbrev FineSaid : Result Item Reason → Type 0
FineSaid (Ok item) = FineItem item
FineSaid (Err reason) = Told reason

abbrev FineValue : Result ℕ Reason → Type 0
FineValue (Ok n) = 0 ≤ 0
FineValue (Err reason) = Told reason

abbrev FineBeat : Result Beat Reason → Type 0
FineBeat (Ok beat) = is_beat beat ≡ true
FineBeat (Err reason) = Told reason

-- ---- reasons

words_told : Told Words
words_told e = cc

unknown_told : Told Unknown
unknown_told e = cc

number_told : Told NotNumber
number_told e = cc

beat_told : Told NotBeat
beat_told e = cc

lowest_told : Told NotLowest
lowest_told e = cc

tempo_told : Told NotTempo
tempo_told e = cc

meter_told : Told NotMeter
meter_told e = cc

-- ---- words

number_fine : (answer : Option ℕ) → FineValue (number_value answer)
unfolding number_value
number_fine (Some n) = omega arith
number_fine None = number_told

tempo_fine : (answer : Option ℕ) → FineValue (tempo_value answer)
unfolding tempo_value
tempo_fine (Some bits) = omega arith
tempo_fine None = tempo_told

abbrev FineWord : Result Beat BeatError → Type 0
FineWord (Ok beat) = is_beat beat ≡ true
FineWord (Err why) = 0 ≤ 0

fraction_fine : (num : Option ℤ) (den : Option ℕ) → FineWord (fraction_of num den)
fraction_fine (Some num) (Some den) = go (is_beat (record { num = num; den = den })) refl
  where
    go : (b : Bool) → is_beat (record { num = num; den = den }) ≡ b → FineWord (cond b (Ok (record { num = num; den = den })) (Err Why.NotBeat))
    go true e = e
    go false e = omega arith
fraction_fine (Some num) None = omega arith
fraction_fine None den = omega arith

beat_fine : (word : List ℕ) → FineBeat (beat_value (beat_of word))
unfolding beat_of beat_value
beat_fine word = go (beat_of word) (fraction_fine (numerator_of (take (run (other 47) word) word)) (denominator_of word (run (other 47) word)))
  where
    go : (w : Result Beat BeatError) → FineWord w → FineBeat (beat_value w)
    go (Ok beat) h = h
    go (Err Why.NotNumber) h = beat_told
    go (Err Why.NotBeat) h = lowest_told

-- ---- items

either : (b : Bool) (x y : Result Item Reason) → FineSaid x → FineSaid y → FineSaid (cond b x y)
either true x y h k = h
either false x y h k = k

sole_fine : (behind : Few) → FineValue (sole_number behind)
unfolding sole_number
sole_fine (single word) = number_fine (number_of word)
sole_fine (double one two) = words_told
sole_fine neither = words_told

rate_fine : (value : Result ℕ Reason) → FineValue value → FineSaid (rate_item value)
unfolding rate_item
rate_fine (Ok n) h = omega arith
rate_fine (Err reason) h = h

beats_fine : (value : Result ℕ Reason) → FineValue value → FineSaid (beats_item value)
unfolding beats_item
beats_fine (Ok n) h = omega arith
beats_fine (Err reason) h = h

by_fine : (value : Result ℕ Reason) → FineValue value → FineSaid (tempo_by value)
unfolding tempo_by
by_fine (Ok n) h = omega arith
by_fine (Err reason) h = h

point_fine : (beat : Result Beat Reason) (value : Result ℕ Reason) → FineBeat beat → FineValue value → FineSaid (point_by beat value)
unfolding point_by
point_fine (Err reason) value h k = h
point_fine (Ok beat) (Err reason) h k = k
point_fine (Ok beat) (Ok bits) h k = h

tempos_fine : (behind : Few) → FineSaid (tempo_item behind)
unfolding tempo_item point_item
tempos_fine (single word) = by_fine (tempo_value (tempo_of word)) (tempo_fine (tempo_of word))
tempos_fine (double place word) = point_fine (beat_value (beat_of place)) (tempo_value (tempo_of word)) (beat_fine place) (tempo_fine (tempo_of word))
tempos_fine neither = words_told

pickup_fine : (behind : Few) → FineSaid (pickup_item behind)
unfolding pickup_item pickup_by
pickup_fine (single word) = go (beat_value (beat_of word)) (beat_fine word)
  where
    go : (beat : Result Beat Reason) → FineBeat beat → FineSaid (pickup_by beat)
    go (Ok beat) h = h
    go (Err reason) h = h
pickup_fine (double one two) = words_told
pickup_fine neither = words_told

over_fine : (bar : ℕ) (num den : Result ℕ Reason) → FineValue num → FineValue den → FineSaid (meter_by bar num den)
unfolding meter_by
over_fine bar (Err reason) den h k = h
over_fine bar (Ok num) (Err reason) h k = k
over_fine bar (Ok num) (Ok den) h k = omega arith

bar_fine : (value : Result ℕ Reason) (word : List ℕ) → FineValue value → FineSaid (bar_by value word)
unfolding bar_by meter_over
bar_fine (Err reason) word h = h
bar_fine (Ok bar) word h =
    either (eqb (slash_of word) (length word)) _ _ meter_told
    (over_fine bar _ _ (number_fine (number_of (part word 0 (slash_of word)))) (number_fine (number_of (part word (slash_of word + 1) (length word)))))

meters_fine : (behind : Few) → FineSaid (meter_item behind)
unfolding meter_item meter_point
meters_fine (double place word) = bar_fine (number_value (number_of place)) word (number_fine (number_of place))
meters_fine (single word) = words_told
meters_fine neither = words_told

held_fine : (item : Result Item Reason) → FineSaid item → Fine (held item)
held_fine (Ok item) h = h
held_fine (Err reason) h = h

pub item_fine : (words : List (List ℕ)) → Fine (item_of words)
unfolding item_of key_item
item_fine [] = omega arith
item_fine (key ∷ rest) =
    let behind = few rest in
    held_fine _ (either (same key rate_key) _ _ (rate_fine (sole_number behind) (sole_fine behind))
    (either (same key beats_key) _ _ (beats_fine (sole_number behind) (sole_fine behind))
    (either (same key tempo_key) _ _ (tempos_fine behind) (either (same key pickup_key) _ _ (pickup_fine behind) (either (same key meter_key) _ _ (meters_fine behind) unknown_told)))))
