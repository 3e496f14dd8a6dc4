-- What is written is a score file and reads back as it was given: each word stands at its place, so the header says the score and the points follow it.
use mathlib.Core.Path.{◌≡◌, refl, sym, ap, ◌∙◌}
use mathlib.Core.Bool.{true}
use mathlib.Core.List.{List, [], ◌∷◌, ◌++◌}
use Prim.Native.Nat.{ℕ, zero, suc, ◌+◌, ◌*◌, ◌<◌, ◌≤◌, ◌^◌}
use native.Mathlib.Omega.{arith}
use borrow.Author.Tests.{le-leb, leb-true}
use lib.Dec.{leb}
use lib.IntN.{ℤ}
use lib.ListN.{length, take, drop, get_or, length-append}
use lib.Seq.{take_at, drop_at, drop-drop}
use Rattle.numbers.proofs.Laws.{both, bits_fit}
use Rattle.tempo.specs.Answers.{all_beats}
use Rattle.score.specs.declared.Score.{Score}
use Rattle.score.specs.Bytes.{word_at, number_at, each, words_bytes}
use Rattle.score.specs.Format.{is_score, pickup_of, pickup_good, tempo_offset, tempo_count, beats_good, meter_words, tempo_nums, tempo_dens, tempo_bits}
use Rattle.score_writer.specs.Files.{low_word, high_word, header_words, pickup_beat, point_words, tempo_words, file_of}
use Rattle.score_writer.specs.Promise.{AllBelow, AllInI64, Writable, ReadsBack}
use Rattle.score_writer.proofs.Putting.{header_length, file_length}
use Rattle.score_writer.proofs.Places.{word_back, words_back, points_back, good_is}
use Rattle.score_writer.proofs.Headers.{HeaderSaid, pickup_back, laid_back, score_back}

-- ---- every word fits 32 bits

record Fits (l : List ℕ) : Type 0 where
  below : AllBelow (2 ^ 32) l

none : Fits []
none = record { below = λ k. omega arith }

more : {x : ℕ} {l : List ℕ} → x < 2 ^ 32 → Fits l → Fits (x ∷ l)
more {x} {l} h t = record { below = at }
  where
    at : AllBelow (2 ^ 32) (x ∷ l)
    at zero = h
    at (suc k) = t.below k

joined : (a : List ℕ) {b : List ℕ} → AllBelow (2 ^ 32) a → Fits b → Fits (a ++ b)
joined [] h t = t
joined (x ∷ a) h t = more (h 0) (joined a (λ k. h (suc k)) t)

points_fit : (nums : List ℤ) (dens bits : List ℕ) → AllInI64 nums → AllBelow (2 ^ 32) dens → AllBelow (2 ^ 32) bits → Fits (tempo_words nums dens bits)
unfolding tempo_words point_words
points_fit [] dens bits h f g = none
points_fit (n ∷ nums) [] bits h f g = none
points_fit (n ∷ nums) (d ∷ dens) [] h f g = none
points_fit (n ∷ nums) (d ∷ dens) (b ∷ bits) h f g =
    let l : low_word n < 2 ^ 32 = omega arith in
    let u : high_word n < 2 ^ 32 = omega (arith, bits_fit n (h 0)) in
    more l (more u (more (f 0) (more (g 0) (points_fit nums dens bits (λ k. h (suc k)) (λ k. f (suc k)) (λ k. g (suc k))))))

module _ (score : Score) (meter : List ℕ) (nums : List ℤ) (dens bits : List ℕ) (w : Writable score meter nums dens bits) where
  few : (score.meters ≤ 256) × (score.tempos ≤ 1024)
  few =
      let f = both (leb score.meters 256) (leb score.tempos 1024) w.few in
      (leb-true score.meters 256 f.0, leb-true score.tempos 1024 f.1)

  header_fits : Fits (header_words score)
  unfolding header_words
  header_fits =
      let f = few in
      let num = (pickup_beat score.pickup).num in
      let one : 1 < 2 ^ 32 = omega arith in
      let l : low_word num < 2 ^ 32 = omega arith in
      let u : high_word num < 2 ^ 32 = omega (arith, bits_fit num w.typed.pickup_num_fits) in
      let m : score.meters < 2 ^ 32 = omega arith in
      let at : 48 < 2 ^ 32 = omega arith in
      let t : score.tempos < 2 ^ 32 = omega arith in
      let o : 48 + 12 * score.meters < 2 ^ 32 = omega arith in
      let n : 48 + 12 * score.meters + 16 * score.tempos < 2 ^ 32 = omega arith in
      more one (more w.typed.rate_fits (more w.typed.beats_fits (more w.typed.bpm_fits
      (more w.typed.pickup_den_fits (more l (more u
      (more m (more at (more t (more o (more n none)))))))))))

  all : AllBelow (2 ^ 32) (header_words score ++ (meter ++ tempo_words nums dens bits))
  all = (joined (header_words score) header_fits.below (joined meter w.typed.meter_fits (points_fit nums dens bits w.typed.nums_fit w.typed.dens_fit w.typed.bits_fit))).below

  -- ---- the header

  at : (k : ℕ) → word_at (file_of score meter nums dens bits) (4 * k) ≡ get_or (header_words score ++ (meter ++ tempo_words nums dens bits)) k 0
  unfolding file_of
  at k = word_back (header_words score ++ (meter ++ tempo_words nums dens bits)) k all

  header : HeaderSaid (file_of score meter nums dens bits) score
  unfolding header_words
  header = record {
    edition = at 0;
    rate = at 1;
    beats = at 2;
    bpm = at 3;
    pickup = record { den = at 4; lower = at 5; higher = at 6 };
    meters = at 7;
    meter_at_lem = at 8;
    tempos = at 9;
    tempo_at_lem = at 10;
    total = at 11;
  }

  -- ---- the points

  behind_header : drop 12 (header_words score ++ (meter ++ tempo_words nums dens bits)) ≡ meter ++ tempo_words nums dens bits
  unfolding header_words
  behind_header = refl

  behind_meter : drop (12 + 3 * score.meters) (header_words score ++ (meter ++ tempo_words nums dens bits)) ≡ tempo_words nums dens bits
  behind_meter =
      sym (drop-drop (3 * score.meters) 12 (header_words score ++ (meter ++ tempo_words nums dens bits)))
      ∙ ap (drop (3 * score.meters)) behind_header
      ∙ drop_at meter (tempo_words nums dens bits) (3 * score.meters) w.all_meters

  meter_says : meter_words (file_of score meter nums dens bits) ≡ meter
  unfolding meter_words file_of
  meter_says =
      let ws = header_words score ++ (meter ++ tempo_words nums dens bits) in
      let room : 12 + 3 * score.meters ≤ length ws = simp length-append (omega (arith, header_length score, w.all_meters)) in
      ap (λ (m : ℕ). each (word_at (words_bytes ws)) 48 4 (3 * m)) header.meters
      ∙ words_back ws all (3 * score.meters) 12 room
      ∙ ap (take (3 * score.meters)) behind_header
      ∙ take_at meter (tempo_words nums dens bits) (3 * score.meters) w.all_meters

  tempos_say : (tempo_nums (file_of score meter nums dens bits) ≡ nums) × (tempo_dens (file_of score meter nums dens bits) ≡ dens) × (tempo_bits (file_of score meter nums dens bits) ≡ bits)
  unfolding tempo_nums tempo_dens tempo_bits file_of
  tempos_say =
      let ws = header_words score ++ (meter ++ tempo_words nums dens bits) in
      let b = words_bytes ws in
      let k = 12 + 3 * score.meters in
      let points = points_back ws all nums dens bits k (w.all_dens ∙ sym w.all_nums) (w.all_bits ∙ sym w.all_nums) w.typed.nums_fit behind_meter in
      let from : 48 + 12 * score.meters ≡ 4 * k = omega arith in
      let place : word_at b 40 ≡ 4 * k = header.tempo_at_lem ∙ from in
      let count : word_at b 36 ≡ length nums = header.tempos ∙ sym w.all_nums in (
        ap (λ (p : ℕ). each (number_at b) p 16 (word_at b 36)) place ∙ ap (each (number_at b) (4 * k) 16) count ∙ points.0,
        ap (λ (p : ℕ). each (word_at b) (p + 8) 16 (word_at b 36)) place ∙ ap (each (word_at b) (4 * k + 8) 16) count ∙ points.1,
        ap (λ (p : ℕ). each (word_at b) (p + 12) 16 (word_at b 36)) place ∙ ap (each (word_at b) (4 * k + 12) 16) count ∙ points.2,
      )

  -- ---- the whole

  pickup_says : (pickup_of (file_of score meter nums dens bits) ≡ score.pickup) × (pickup_good (file_of score meter nums dens bits) ≡ true)
  pickup_says = pickup_back (file_of score meter nums dens bits) score.pickup header.pickup w.sound_pickup_lem w.typed.pickup_num_fits

  long : length (file_of score meter nums dens bits) ≡ 48 + 12 * score.meters + 16 * score.tempos
  long = file_length score meter nums dens bits (w.all_dens ∙ sym w.all_nums) (w.all_bits ∙ sym w.all_nums) ∙ omega (arith, w.all_meters, w.all_nums)

  beats_say : (b : List ℕ) → tempo_nums b ≡ nums → tempo_dens b ≡ dens → beats_good b (tempo_offset b) (tempo_count b) ≡ true
  unfolding tempo_nums tempo_dens
  beats_say b e f =
      good_is b (tempo_offset b) (tempo_count b)
      ∙ ap (λ (l : List ℤ). all_beats l (each (word_at b) (tempo_offset b + 8) 16 (tempo_count b))) e ∙ ap (all_beats nums) f ∙ w.sound_beats

  is_file : is_score (file_of score meter nums dens bits) ≡ true
  unfolding is_score
  is_file =
      let b = file_of score meter nums dens bits in
      let l = long in
      let whole = le-leb 48 (length b) (omega arith) in
      simp (whole, laid_back b score header w.few long, pickup_says.1, beats_say b tempos_say.0 tempos_say.1)

pub reads_back_lem : ReadsBack
reads_back_lem score meter nums dens bits w =
    let tempos = tempos_say score meter nums dens bits w in
    record {
      is_score_lem = is_file score meter nums dens bits w;
      says_score = score_back (file_of score meter nums dens bits) score (header score meter nums dens bits w) (pickup_says score meter nums dens bits w).0;
      says_meter = meter_says score meter nums dens bits w;
      says_nums = tempos.0;
      says_dens = tempos.1;
      says_bits = tempos.2;
    }
