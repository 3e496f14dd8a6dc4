-- The score file: when a list of bytes is one, and what it says.
use Rattle.std.specs.Prelude.{Bool, Option, Some, None, true, cond, ◌&&◌, List, ℕ, zero, suc, ◌+◌, ◌*◌, leb, eqb, ℤ, length}
use Rattle.beats.specs.declared.Beat.{Beat}
use Rattle.beats.specs.Beats.{is_beat}
use Rattle.score.specs.declared.Score.{Score}
use Rattle.score.specs.Bytes.{word_at, number_at, each}

-- ---- the header, twelve words

module _ (bytes : List ℕ) where
  abbrev pub edition : ℕ
  edition = word_at bytes 0

  abbrev pub rate : ℕ
  rate = word_at bytes 4

  abbrev pub beats_per_bar : ℕ
  beats_per_bar = word_at bytes 8

  abbrev pub bpm_bits : ℕ
  bpm_bits = word_at bytes 12

  -- 0 where there is no pickup
  abbrev pub pickup_den : ℕ
  pickup_den = word_at bytes 16

  abbrev pub pickup_low : ℕ
  pickup_low = word_at bytes 20

  abbrev pub pickup_high : ℕ
  pickup_high = word_at bytes 24

  -- the number of those two words
  abbrev pub pickup_num : ℤ
  pickup_num = number_at bytes 20

  abbrev pub meter_count : ℕ
  meter_count = word_at bytes 28

  abbrev pub meter_offset : ℕ
  meter_offset = word_at bytes 32

  abbrev pub tempo_count : ℕ
  tempo_count = word_at bytes 36

  abbrev pub tempo_offset : ℕ
  tempo_offset = word_at bytes 40

  abbrev pub total : ℕ
  total = word_at bytes 44

-- ---- when it is one

-- where the tempo points begin, and where they end, for so many points: a header of 48 bytes, 12 for a meter point, 16 for a tempo point
abbrev pub tempo_offset_for : ℕ → ℕ
tempo_offset_for meters = 48 + 12 * meters

abbrev pub total_for : ℕ → ℕ → ℕ
total_for meters tempos = 48 + 12 * meters + 16 * tempos

-- edition 1; at most 256 meter points of 12 bytes, from byte 48 on; at most 1,024 tempo points of 16 bytes right behind them; the total is where they end, and the real length
abbrev pub laid_out_by : ℕ → ℕ → ℕ → ℕ → ℕ → ℕ → ℕ → Bool
laid_out_by edition meters meter_offset tempos tempo_offset total long =
    eqb edition 1 && (leb meters 256 && (eqb meter_offset 48 && (leb tempos 1024 && (eqb tempo_offset (tempo_offset_for meters)
    && (eqb total (total_for meters tempos) && eqb long total)))))

unfoldable pub laid_out : List ℕ → Bool
laid_out bytes = laid_out_by (edition bytes) (meter_count bytes) (meter_offset bytes) (tempo_count bytes) (tempo_offset bytes) (total bytes) (length bytes)

-- no pickup, and both numerator words 0; or a beat in lowest terms
unfoldable pub pickup_good : List ℕ → Bool
pickup_good bytes =
    cond (eqb (pickup_den bytes) 0)
    (eqb (pickup_low bytes) 0 && eqb (pickup_high bytes) 0)
    (is_beat (record { num = pickup_num bytes; den = pickup_den bytes }))

-- the beat of the tempo point at a place: numerator low, high, denominator (and bpm bits)
unfoldable pub beat_at : List ℕ → ℕ → Beat
beat_at bytes place = record { num = number_at bytes place; den = word_at bytes (place + 8) }

-- the beats of `count` tempo points, the first at the place, are in lowest terms
unfoldable pub beats_good : List ℕ → ℕ → ℕ → Bool
beats_good bytes place zero = true
beats_good bytes place (suc count) = is_beat (beat_at bytes place) && beats_good bytes (place + 16) count

-- a whole header, and the rules above; problems of the maps do not matter
unfoldable pub is_score : List ℕ → Bool
is_score bytes = leb 48 (length bytes) && (laid_out bytes && (pickup_good bytes && beats_good bytes (tempo_offset bytes) (tempo_count bytes)))

-- ---- what it says

unfoldable pub pickup_of : List ℕ → Option Beat
pickup_of bytes = cond (eqb (pickup_den bytes) 0) None (Some (record { num = pickup_num bytes; den = pickup_den bytes }))

unfoldable pub score_of : List ℕ → Score
score_of bytes = record {
  rate = rate bytes;
  beats = beats_per_bar bytes;
  bpm = bpm_bits bytes;
  pickup = pickup_of bytes;
  meters = meter_count bytes;
  tempos = tempo_count bytes;
}

module _ (bytes : List ℕ) where
  -- bar, numerator, denominator of each meter point
  unfoldable pub meter_words : List ℕ
  meter_words = each (word_at bytes) 48 4 (3 * meter_count bytes)

  -- of each tempo point: the numerator, the denominator, the bits of its tempo
  unfoldable pub tempo_nums : List ℤ
  tempo_nums = each (number_at bytes) (tempo_offset bytes) 16 (tempo_count bytes)

  unfoldable pub tempo_dens : List ℕ
  tempo_dens = each (word_at bytes) (tempo_offset bytes + 8) 16 (tempo_count bytes)

  unfoldable pub tempo_bits : List ℕ
  tempo_bits = each (word_at bytes) (tempo_offset bytes + 12) 16 (tempo_count bytes)
