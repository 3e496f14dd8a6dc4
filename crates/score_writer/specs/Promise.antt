-- What makes the writer and the reader a pair: what is written is read back as it was given, and a file that is read and written again is the same file.
-- proofs/Back.antt, proofs/Lent.antt and proofs/Again.antt prove it.
use Rattle.std.specs.Prelude.{◌≡◌, true, List, ℕ, ◌*◌, ◌≤◌, ◌<◌, ◌^◌, ℤ, pos, length, take, get_or}
use Rattle.numbers.specs.Answers.{accepted}
use Rattle.numbers.specs.Signs.{fits_i64}
use Rattle.meter.specs.Meters.{sound_pickup}
use Rattle.tempo.specs.Answers.{all_beats}
use Rattle.score.specs.declared.Score.{Score}
use Rattle.score.specs.Format.{is_score, score_of, meter_words, tempo_nums, tempo_dens, tempo_bits}
use Rattle.score_writer.specs.Files.{pickup_beat, file_of}
use Rattle.score_writer.specs.Answers.{few_points, file_from, write_answer}

-- ---- lists of bytes, words and numbers

-- each element is below a limit. (There is a 0 past the end.)
abbrev pub AllBelow : ℕ → List ℕ → Type 0
AllBelow limit list = (place : ℕ) → get_or list place 0 < limit

abbrev pub AllInI64 : List ℤ → Type 0
AllInI64 nums = (place : ℕ) → fits_i64 (get_or nums place (pos 0)) ≡ true

-- ---- what can be written

module _ (score : Score) (meter : List ℕ) (nums : List ℤ) (dens bits : List ℕ) where
  -- the numbers fit their types
  pub record Typed : Type 0 where
    pub rate_fits : score.rate < 2 ^ 32
    pub beats_fits : score.beats < 2 ^ 32
    pub bpm_fits : score.bpm < 2 ^ 32
    pub pickup_num_fits : fits_i64 (pickup_beat score.pickup).num ≡ true
    pub pickup_den_fits : (pickup_beat score.pickup).den < 2 ^ 32
    pub meter_fits : AllBelow (2 ^ 32) meter
    pub nums_fit : AllInI64 nums
    pub dens_fit : AllBelow (2 ^ 32) dens
    pub bits_fit : AllBelow (2 ^ 32) bits

  -- what a call that is not refused has: points as the score counts them, beats in lowest terms, and numbers that fit their types
  pub record Writable : Type 0 where
    pub few : few_points score ≡ true
    pub all_meters : length meter ≡ 3 * score.meters
    pub all_nums : length nums ≡ score.tempos
    pub all_dens : length dens ≡ score.tempos
    pub all_bits : length bits ≡ score.tempos
    pub sound_pickup_lem : sound_pickup score.pickup ≡ true
    pub sound_beats : all_beats nums dens ≡ true
    pub typed : Typed

  -- bytes that are a score file, and say this
  pub record Says (bytes : List ℕ) : Type 0 where
    pub is_score_lem : is_score bytes ≡ true
    pub says_score : score_of bytes ≡ score
    pub says_meter : meter_words bytes ≡ meter
    pub says_nums : tempo_nums bytes ≡ nums
    pub says_dens : tempo_dens bytes ≡ dens
    pub says_bits : tempo_bits bytes ≡ bits

-- ---- the promise

-- what is written is a score file, and reading it gives the same back
abbrev pub ReadsBack : Type 0
ReadsBack = (score : Score) (meter : List ℕ) (nums : List ℤ) (dens bits : List ℕ)
    → Writable score meter nums dens bits
    → Says score meter nums dens bits (file_of score meter nums dens bits)

-- so does what an accepted call writes: the points that count of the lent arrays, which have room for a full file
abbrev pub AcceptedReadsBack : Type 0
AcceptedReadsBack = (score : Score) (meter : List ℕ) (nums : List ℤ) (dens bits : List ℕ)
    → 768 ≤ length meter → 1024 ≤ length nums → 1024 ≤ length dens → 1024 ≤ length bits
    → Typed score meter nums dens bits
    → (bytes : ℕ) → write_answer score meter nums dens bits ≡ accepted bytes
    → Says score (take (3 * score.meters) meter) (take score.tempos nums) (take score.tempos dens) (take score.tempos bits)
    (file_from score meter nums dens bits)

-- a score file that is read and written again is the same, so no two files say the same
abbrev pub WritesAgain : Type 0
WritesAgain = (bytes : List ℕ) → AllBelow 256 bytes → is_score bytes ≡ true
    → file_of (score_of bytes) (meter_words bytes) (tempo_nums bytes) (tempo_dens bytes) (tempo_bits bytes) ≡ bytes

pub record Promised : Type 0 where
  pub reads_back_lem : ReadsBack
  pub accepted_reads_back : AcceptedReadsBack
  pub writes_again : WritesAgain
