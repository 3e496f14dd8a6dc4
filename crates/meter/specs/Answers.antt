-- The calls: 3, 4 and 1 are tested in this order.
use Rattle.std.specs.Prelude.{cond, List, [], ℕ, ◌*◌, ◌%◌, leb, eqb, length, Option}
use Rattle.numbers.specs.Answers.{Answer, accepted, refused}
use Rattle.beats.specs.declared.Beat.{Beat}
use Rattle.beats.specs.Beats.{if_beat}
use Rattle.meter.specs.declared.MeterPoint.{MeterPoint}
use Rattle.meter.specs.Meters.{points_of, meter_at, bar_len, sound_pickup}
use Rattle.meter.specs.Starts.{start_of}
use Rattle.meter.specs.Counts.{count_at}

-- of three: where the words are three a point and there are at most 65,536 points; where there are more; and where they are not three a point
abbrev pub by_words : {A : Type 0} → List ℕ → A → A → A → A
by_words words fine long uneven = cond (eqb (length words % 3) 0) (cond (leb (length words) (65536 * 3)) fine long) uneven

-- 3 where the words are not three a point, 4 where there are over 65,536 points
abbrev pub if_map : {A : Type 0} → List ℕ → Answer A → Answer A
if_map words answer = by_words words answer (refused 4 []) (refused 3 [])

-- 1 where the pickup is no beat
abbrev pub if_pickup : {A : Type 0} → Option Beat → Answer A → Answer A
if_pickup pickup answer = cond (sound_pickup pickup) answer (refused 1 [])

abbrev pub meter_answer : List ℕ → ℕ → ℕ → Answer MeterPoint
meter_answer words default bar = if_map words (accepted (meter_at (points_of words) default bar))

abbrev pub length_answer : List ℕ → ℕ → Option Beat → ℕ → Answer Beat
length_answer words default pickup bar = if_map words (if_pickup pickup (accepted (bar_len (points_of words) default pickup bar)))

abbrev pub start_answer : List ℕ → ℕ → Option Beat → ℕ → Answer Beat
start_answer words default pickup bar = if_map words (if_pickup pickup (accepted (start_of (points_of words) default pickup bar)))

abbrev pub count_answer : List ℕ → ℕ → Option Beat → Beat → Answer ℕ
count_answer words default pickup beat = if_map words (if_pickup pickup (if_beat beat (accepted (count_at (points_of words) default pickup beat))))
