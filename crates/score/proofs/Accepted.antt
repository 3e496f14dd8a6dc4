-- What an answer says of the bytes: accepted, they are a score file, whose counts have limits and whose points are the fronts of the lent lists; refused, they are none.
use Rattle.std.proofs.Common.{◌≡◌, refl, sym, ap, ◌∙◌, Bool, true, false, cond, ◌&&◌, List, ℕ, ◌*◌, ◌≤◌, ◌<◌, arith, leb, eqb, ℤ, length, take, drop, Result, Ok, Err, Some, None}
use lib.Seq.{take_at, take_all, length-take-le}
use Rattle.numbers.specs.Answers.{Answer, accepted, refused}
use Rattle.numbers.specs.declared.refusal.Refusal.{Refusal}
use Rattle.numbers.specs.Refusals.{read}
use Rattle.numbers.proofs.Laws.{and_left, and_right, by_order, cases}
use Rattle.beats.specs.declared.Beat.{Beat}
use Rattle.beats.specs.Beats.{is_beat}
use Rattle.meter.specs.Meters.{sound_pickup}
use Rattle.score.specs.declared.Score.{Score}
use Rattle.score.specs.declared.music.Points.{Points}
use Rattle.score.specs.Bytes.{word_at, number_at}
use Rattle.score.specs.Format.{tempo_offset, tempo_count, meter_count, is_score, score_of, meter_words, tempo_nums, tempo_dens, tempo_bits}
use Rattle.score.specs.Format.{laid_out, pickup_good, beats_good, pickup_of, pickup_den, pickup_num, pickup_low, pickup_high}
use Rattle.score.specs.Answers.{score_answer, after, Leaves}
use Rattle.score.proofs.Places.{each_length}
use Rattle.score.proofs.Whole.{accepted_is, refused_is, score_laid}

-- both at once never
never : {x y : Bool} (s : Score) {n : ℕ} {facts : List ℕ} → accepted s ≡ refused n facts → x ≡ y
never s e = cc

value : Score → Answer Score → Score
value s (accepted a) = a
value s (refused n facts) = s

-- what the answer r says of the bytes that it was given for
module _ (b : List ℕ) {r : Result Score Refusal} where
  pub bad_file : {why : Refusal} → r ≡ Err why → read r ≡ score_answer b → is_score b ≡ false
  bad_file is e = cases (is_score b) (λ t. never (score_of b) (accepted_is b t (score_of b) refl ∙ sym e ∙ ap read is)) (λ t. t)

  module _ {s : Score} (is : r ≡ Ok s) (e : read r ≡ score_answer b) where
    pub good_file : is_score b ≡ true
    good_file = cases (is_score b) (λ t. t) (λ t. never s (sym (ap read is) ∙ e ∙ sym (refused_is b t)))

    pub says : s ≡ score_of b
    unfolding value
    says = ap (value s) (sym (ap read is) ∙ e ∙ sym (accepted_is b good_file (score_of b) refl))

module _ (b : List ℕ) where
  module _ (good : is_score b ≡ true) where
    -- ---- the limits

    pub few_meters : (score_of b).meters ≤ 256
    unfolding score_of
    few_meters = (score_laid b good).few

    pub few_tempos : (score_of b).tempos ≤ 1024
    unfolding score_of
    few_tempos = (score_laid b good).points

    -- a header of 48 bytes, 256 meter points of 12 and 1,024 tempo points of 16
    pub longest : length b ≤ 19504
    longest = let l = score_laid b good in omega (arith, l)

    -- ---- the fronts of the lists

    front : {A : Type 0} (new old : List A) (n : ℕ) → length new ≡ n → take n (after b new old) ≡ new
    unfolding after
    front new old n e = simp good (take_at new (drop (length new) old) n e)

    pub meter_front : (old : List ℕ) → take (3 * (score_of b).meters) (after b (meter_words b) old) ≡ meter_words b
    unfolding score_of meter_words
    meter_front old = front (meter_words b) old (3 * meter_count b) (each_length (word_at b) 48 4 (3 * meter_count b))

    pub nums_front : (old : List ℤ) → take (score_of b).tempos (after b (tempo_nums b) old) ≡ tempo_nums b
    unfolding score_of tempo_nums
    nums_front old = front (tempo_nums b) old (tempo_count b) (each_length (number_at b) (tempo_offset b) 16 (tempo_count b))

    pub dens_front : (old : List ℕ) → take (score_of b).tempos (after b (tempo_dens b) old) ≡ tempo_dens b
    unfolding score_of tempo_dens
    dens_front old = front (tempo_dens b) old (tempo_count b) (each_length (word_at b) _ 16 (tempo_count b))

    pub bits_front : (old : List ℕ) → take (score_of b).tempos (after b (tempo_bits b) old) ≡ tempo_bits b
    unfolding score_of tempo_bits
    bits_front old = front (tempo_bits b) old (tempo_count b) (each_length (word_at b) _ 16 (tempo_count b))

  -- longer bytes are none
  too_long : 19504 < length b → is_score b ≡ false
  too_long h = cases (is_score b) (λ t. absurd (omega (arith, longest t))) (λ t. t)

-- ---- a score that was read

third : (a b c d : Bool) → (a && (b && (c && d))) ≡ true → c ≡ true
third a b c d e = and_left c d (and_right b (c && d) (and_right a (b && (c && d)) e))

good_pickup : (b : List ℕ) → is_score b ≡ true → pickup_good b ≡ true
unfolding is_score
good_pickup b e = third (leb 48 (length b)) (laid_out b) (pickup_good b) (beats_good b (tempo_offset b) (tempo_count b)) e

file_pickup : (b : List ℕ) → is_score b ≡ true → sound_pickup (score_of b).pickup ≡ true
unfolding score_of pickup_of pickup_good
file_pickup b e = go (eqb (pickup_den b) 0) (good_pickup b e)
  where
    beat : Beat
    beat = record { num = pickup_num b; den = pickup_den b }

    go : (absent : Bool) → cond absent (eqb (pickup_low b) 0 && eqb (pickup_high b) 0) (is_beat beat) ≡ true → sound_pickup (cond absent None (Some beat)) ≡ true
    go true g = refl
    go false g = g

module _ (b : List ℕ) {r : Result Score Refusal} {s : Score} (is : r ≡ Ok s) (e : read r ≡ score_answer b) where
  pub meters_few : s.meters ≤ 256
  meters_few = rw (says b is e) (few_meters b (good_file b is e))

  pub tempos_few : s.tempos ≤ 1024
  tempos_few = rw (says b is e) (few_tempos b (good_file b is e))

  -- its pickup is absent or a beat
  pub pickup_sound : sound_pickup s.pickup ≡ true
  pickup_sound = rw (says b is e) (file_pickup b (good_file b is e))

  -- what is made of it and of the fronts of the lists is made of what the file says
  pub made_of_file : {A : Type 0} (make : Score → List ℕ → List ℤ → List ℕ → List ℕ → A) (none : A)
      {before now : Points} → Leaves b before now
      → make s (take (3 * s.meters) now.meter) (take s.tempos now.nums) (take s.tempos now.dens) (take s.tempos now.bpms)
      ≡ cond (is_score b) (make (score_of b) (meter_words b) (tempo_nums b) (tempo_dens b) (tempo_bits b)) none
  made_of_file make none {before} {now} l =
      let g = good_file b is e in
      rw (says b is e, l.meter_is, l.nums_is, l.dens_is, l.bits_is, meter_front b g before.meter, nums_front b g before.nums, dens_front b g before.dens, bits_front b g before.bpms, g)

-- ---- a longer input

-- A program that makes one thing of all bytes that are no score file may read one byte more than the longest. What it makes of that is what it would make of the
-- whole input: a longer input is no score file, and what was read of it is none either.
pub read_enough : {A : Type 0} (make : List ℕ → A) (none : A) → ((b : List ℕ) → is_score b ≡ false → none ≡ make b) → (b : List ℕ) → make (take 19505 b) ≡ make b
read_enough make none other b = by_order 19505 (length b) long (λ h. ap make (take_all 19505 b h))
  where
    long : 19505 < length b → make (take 19505 b) ≡ make b
    long h = sym (other (take 19505 b) (too_long _ (omega (arith, length-take-le 19505 b (omega arith))))) ∙ other b (too_long b (omega arith))
