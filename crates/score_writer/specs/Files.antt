-- The bytes of the file that says a score: a list of 32-bit words, each as four bytes.
use Rattle.std.specs.Prelude.{List, Option, [], ◌∷◌, ◌++◌, ℕ, ◌/◌, ◌%◌, ℤ, pos}
use Rattle.numbers.specs.Bits.{bits_of}
use Rattle.beats.specs.declared.Beat.{Beat}
use Rattle.meter.specs.Meters.{pickup_or}
use Rattle.score.specs.declared.Score.{Score}
use Rattle.score.specs.Bytes.{words_bytes}
use Rattle.score.specs.Format.{tempo_offset_for, total_for}

-- ---- numbers as two words

abbrev pub low_word : ℤ → ℕ
low_word num = bits_of num % 4294967296

abbrev pub high_word : ℤ → ℕ
high_word num = bits_of num / 4294967296

-- ---- the parts of a file

-- the pickup that the header has, 0/0 where there is none
abbrev pub pickup_beat : Option Beat → Beat
pickup_beat pickup = pickup_or pickup (record { num = pos 0; den = 0 })

-- edition 1, rate, beats per bar, bpm bits; pickup denominator, numerator low and high; meter count and offset, tempo count and offset, total bytes
unfoldable pub header_words : Score → List ℕ
header_words score =
    1 ∷ score.rate ∷ score.beats ∷ score.bpm ∷
    (pickup_beat score.pickup).den ∷ low_word (pickup_beat score.pickup).num ∷ high_word (pickup_beat score.pickup).num ∷
    score.meters ∷ 48 ∷ score.tempos ∷ tempo_offset_for score.meters ∷ total_for score.meters score.tempos ∷ []

-- a tempo point: numerator low and high, denominator, bpm bits
unfoldable pub point_words : ℤ → ℕ → ℕ → List ℕ
point_words num den bits = low_word num ∷ high_word num ∷ den ∷ bits ∷ []

-- the tempo points of three parallel lists
unfoldable pub tempo_words : List ℤ → List ℕ → List ℕ → List ℕ
tempo_words [] dens bits = []
tempo_words (num ∷ nums) [] bits = []
tempo_words (num ∷ nums) (den ∷ dens) [] = []
tempo_words (num ∷ nums) (den ∷ dens) (bpm ∷ bits) = point_words num den bpm ++ tempo_words nums dens bits

-- the file of a score, its meter points as flat words and its tempo points
unfoldable pub file_of : Score → List ℕ → List ℤ → List ℕ → List ℕ → List ℕ
file_of score meter nums dens bits = words_bytes (header_words score ++ (meter ++ tempo_words nums dens bits))
