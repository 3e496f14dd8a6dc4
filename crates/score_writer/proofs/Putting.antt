-- Words as bytes: four bytes a word, and lists of words one behind another are one list.
use Rattle.std.proofs.Common.{◌≡◌, refl, sym, ap, ◌∙◌, List, [], ◌∷◌, ◌++◌, ℕ, zero, suc, ◌+◌, ◌*◌, ◌/◌, ◌%◌, ◌≤◌, ◌<◌, ℤ, pos, length, take, get_or, length-append, length-take-le, arith, w32, Bool, true, false, cond, is_ok, Result, Ok, Err}
use mathlib.Core.List.{append_assoc, append-nil}
use native.Mathlib.Numerals.{add-one}
use lib.Seq.{take_all, take-suc}
use borrow.Author.Tests.{eq-eqb, le-leb}
use Rattle.std.specs.Int.{to_le_bytes}
use Rattle.numbers.specs.Bits.{bits_of}
use Rattle.numbers.specs.declared.refusal.Refusal.{Refusal}
use Rattle.numbers.specs.declared.refusal.Refusal.TheVariants.{NotBeat}
use Rattle.tempo.specs.Answers.{all_beats, map_test}
use Rattle.text.specs.declared.page.Page.{Page}
use Rattle.text.specs.Pages.{Appends}
use Rattle.text.proofs.Laws.{append_behind, append_as, append_nothing, room_kept}
use Rattle.beats.specs.declared.Beat.{Beat}
use Rattle.score.specs.declared.Score.{Score}
use Rattle.score.specs.Bytes.{word_bytes, words_bytes}
use Rattle.score_writer.specs.Files.{pickup_beat, header_words, point_words, tempo_words, file_of}

-- ---- lengths

pub word_length : (w : ℕ) → length (word_bytes w) ≡ 4
unfolding word_bytes
word_length w = refl

pub words_length : (ws : List ℕ) → length (words_bytes ws) ≡ 4 * length ws
unfolding words_bytes
words_length [] = refl
words_length (w ∷ ws) = simp length-append (omega (arith, word_length w, words_length ws))

pub words_append : (a b : List ℕ) → words_bytes (a ++ b) ≡ words_bytes a ++ words_bytes b
unfolding words_bytes
words_append [] b = refl
words_append (w ∷ a) b = ap (λ (l : List ℕ). word_bytes w ++ l) (words_append a b) ∙ sym (append_assoc (word_bytes w) (words_bytes a) (words_bytes b))

pub one_word : (w : ℕ) → words_bytes (w ∷ []) ≡ word_bytes w
unfolding words_bytes
one_word w = append-nil (word_bytes w)

pub no_words : (page : Page) → Appends (words_bytes []) page page
unfolding words_bytes
no_words = append_nothing

-- ---- a word, and one word more

pub word_is : (w : ℕ) → to_le_bytes w32 w ≡ word_bytes w
unfolding word_bytes
word_is w = refl

pub next_word : (ws : List ℕ) (k : ℕ) {page mid new : Page} → k < length ws → page.place ≤ length page.out.now
    → Appends (words_bytes (take k ws)) page mid → Appends (word_bytes (get_or ws k 0)) mid new → Appends (words_bytes (take (k + 1) ws)) page new
next_word ws k h room x y =
    let q : take k ws ++ (get_or ws k 0 ∷ []) ≡ take (k + 1) ws = sym (ap (λ (j : ℕ). take j ws) (add-one k) ∙ take-suc ws k 0 h) in
    append_as (ap (λ (l : List ℕ). words_bytes (take k ws) ++ l) (sym (one_word (get_or ws k 0))) ∙ sym (words_append (take k ws) (get_or ws k 0 ∷ [])) ∙ ap words_bytes q) (append_behind x y room)

-- where the page stands behind words, which leave it as long as it was
pub words_end : (ws : List ℕ) {page new : Page} → page.place + 4 * length ws ≤ length page.out.now → Appends (words_bytes ws) page new → (new.place ≡ page.place + 4 * length ws) × (length new.out.now ≡ length page.out.now)
words_end ws room x = let l = words_length ws in (omega (arith, x.puts.next_is, l), room_kept x (omega (arith, l)))

-- where the page stands behind k words, or behind as many points
pub words_place : (ws : List ℕ) (k : ℕ) {page mid : Page} → k ≤ length ws → Appends (words_bytes (take k ws)) page mid → mid.place ≡ page.place + 4 * k
words_place ws k h x = omega (arith, x.puts.next_is, words_length (take k ws), length-take-le k ws h)

-- ---- tempo points

pub point_length : (num : ℤ) (den bits : ℕ) → length (point_words num den bits) ≡ 4
unfolding point_words
point_length num den bits = refl

-- of a number's bits
pub point_is : (num : ℤ) (den bpm : ℕ) {whole : ℕ} → whole ≡ bits_of num → (whole % 4294967296) ∷ (whole / 4294967296) ∷ den ∷ bpm ∷ [] ≡ point_words num den bpm
unfolding point_words
point_is num den bpm e = ap (λ (k : ℕ). (k % 4294967296) ∷ (k / 4294967296) ∷ den ∷ bpm ∷ []) e

pub point_bytes : (num : ℤ) (den bpm : ℕ) {page new : Page} → Appends (words_bytes (point_words num den bpm)) page new → new.place ≡ page.place + 16
point_bytes num den bpm x = omega (arith, x.puts.next_is, words_length (point_words num den bpm), point_length num den bpm)

pub tempo_length : (nums : List ℤ) (dens bits : List ℕ) → length dens ≡ length nums → length bits ≡ length nums → length (tempo_words nums dens bits) ≡ 4 * length nums
unfolding tempo_words
tempo_length [] dens bits e f = refl
tempo_length (n ∷ nums) [] bits e f = let z : ⊥ = omega arith in absurd z
tempo_length (n ∷ nums) (d ∷ dens) [] e f = let z : ⊥ = omega arith in absurd z
tempo_length (n ∷ nums) (d ∷ dens) (b ∷ bits) e f =
    simp length-append (omega (arith, point_length n d b, tempo_length nums dens bits (omega arith) (omega arith)))

pub points_place : (nums : List ℤ) (dens bits : List ℕ) (k : ℕ) {page mid : Page} → length dens ≡ length nums → length bits ≡ length nums → k ≤ length nums
    → Appends (words_bytes (tempo_words (take k nums) (take k dens) (take k bits))) page mid → mid.place ≡ page.place + 16 * k
points_place nums dens bits k e f h x =
    let n = length-take-le k nums h in
    let d : length (take k dens) ≡ length (take k nums) = length-take-le k dens (omega arith) ∙ sym n in
    let b : length (take k bits) ≡ length (take k nums) = length-take-le k bits (omega arith) ∙ sym n in
    omega (arith, x.puts.next_is, words_length (tempo_words (take k nums) (take k dens) (take k bits)), tempo_length (take k nums) (take k dens) (take k bits) d b, n)

-- one point more
pub tempo_more : (nums : List ℤ) (dens bits : List ℕ) (k : ℕ) → length dens ≡ length nums → length bits ≡ length nums → k < length nums
    → tempo_words (take k nums) (take k dens) (take k bits) ++ point_words (get_or nums k (pos 0)) (get_or dens k 0) (get_or bits k 0)
    ≡ tempo_words (take (suc k) nums) (take (suc k) dens) (take (suc k) bits)
unfolding tempo_words
tempo_more [] dens bits k e f h = let z : ⊥ = omega arith in absurd z
tempo_more (n ∷ nums) [] bits k e f h = let z : ⊥ = omega arith in absurd z
tempo_more (n ∷ nums) (d ∷ dens) [] k e f h = let z : ⊥ = omega arith in absurd z
tempo_more (n ∷ nums) (d ∷ dens) (b ∷ bits) zero e f h = sym (append-nil (point_words n d b))
tempo_more (n ∷ nums) (d ∷ dens) (b ∷ bits) (suc k) e f h =
    append_assoc (point_words n d b) (tempo_words (take k nums) (take k dens) (take k bits)) (point_words (get_or nums k (pos 0)) (get_or dens k 0) (get_or bits k 0))
    ∙ ap (λ (l : List ℕ). point_words n d b ++ l) (tempo_more nums dens bits k (omega arith) (omega arith) (omega arith))

pub next_point : (nums : List ℤ) (dens bits : List ℕ) (k : ℕ) {num : ℤ} {page mid new : Page} → length dens ≡ length nums → length bits ≡ length nums → k < length nums → page.place ≤ length page.out.now
    → Appends (words_bytes (tempo_words (take k nums) (take k dens) (take k bits))) page mid
    → num ≡ get_or nums k (pos 0) → Appends (words_bytes (point_words num (get_or dens k 0) (get_or bits k 0))) mid new
    → Appends (words_bytes (tempo_words (take (k + 1) nums) (take (k + 1) dens) (take (k + 1) bits))) page new
next_point nums dens bits k e f h room x same y =
    let q = words_append (tempo_words (take k nums) (take k dens) (take k bits)) (point_words (get_or nums k (pos 0)) (get_or dens k 0) (get_or bits k 0)) in
    let s = ap (λ (j : ℕ). words_bytes (tempo_words (take j nums) (take j dens) (take j bits))) (add-one k) in
    let z = append_as (ap (λ (num : ℤ). words_bytes (point_words num (get_or dens k 0) (get_or bits k 0))) same) y in
    append_as (sym q ∙ ap words_bytes (tempo_more nums dens bits k e f h) ∙ sym s) (append_behind x z room)

pub all_points : (nums : List ℤ) (dens bits : List ℕ) (k : ℕ) → k ≡ length nums → length dens ≡ length nums → length bits ≡ length nums
    → tempo_words (take k nums) (take k dens) (take k bits) ≡ tempo_words nums dens bits
all_points nums dens bits k h e f =
    let n : take k nums ≡ nums = take_all k nums (omega arith) in
    let d : take k dens ≡ dens = take_all k dens (omega arith) in
    let b : take k bits ≡ bits = take_all k bits (omega arith) in
    cc

pub no_points : (page : Page) → Appends (words_bytes (tempo_words [] [] [])) page page
unfolding tempo_words
no_points = no_words

-- ---- the whole

pub header_is : (score : Score) (beat : Beat) {whole : ℕ} → beat ≡ pickup_beat score.pickup → whole ≡ bits_of beat.num
    → 1 ∷ score.rate ∷ score.beats ∷ score.bpm ∷ beat.den ∷ (whole % 4294967296) ∷ (whole / 4294967296) ∷
    score.meters ∷ 48 ∷ score.tempos ∷ (48 + 12 * score.meters) ∷ (48 + 12 * score.meters + 16 * score.tempos) ∷ [] ≡ header_words score
unfolding header_words
header_is score beat {whole} e f =
    let words : Beat → ℕ → List ℕ = λ b k. 1 ∷ score.rate ∷ score.beats ∷ score.bpm ∷ b.den ∷ (k % 4294967296) ∷ (k / 4294967296) ∷
    score.meters ∷ 48 ∷ score.tempos ∷ (48 + 12 * score.meters) ∷ (48 + 12 * score.meters + 16 * score.tempos) ∷ [] in
    ap (words beat) f ∙ ap (λ (b : Beat). words b (bits_of b.num)) e

pub header_length : (score : Score) → length (header_words score) ≡ 12
unfolding header_words
header_length score = refl

pub header_bytes : (score : Score) → length (words_bytes (header_words score)) ≡ 48
header_bytes score = words_length (header_words score) ∙ ap (λ (n : ℕ). 4 * n) (header_length score)

module _ (score : Score) (meter : List ℕ) (nums : List ℤ) (dens bits : List ℕ) where
  -- a file is its header, its meter points and its tempo points
  pub file_parts : {p q r s : Page} → p.place ≤ length p.out.now → Appends (words_bytes (header_words score)) p q → Appends (words_bytes meter) q r
      → Appends (words_bytes (tempo_words nums dens bits)) r s → Appends (file_of score meter nums dens bits) p s
  unfolding file_of
  file_parts room x y z =
      append_as
      (append_assoc (words_bytes (header_words score)) (words_bytes meter) (words_bytes (tempo_words nums dens bits))
      ∙ ap (λ (l : List ℕ). words_bytes (header_words score) ++ l) (sym (words_append meter (tempo_words nums dens bits)))
      ∙ sym (words_append (header_words score) (meter ++ tempo_words nums dens bits)))
      (append_behind (append_behind x y room) z room)

  pub file_length : length dens ≡ length nums → length bits ≡ length nums → length (file_of score meter nums dens bits) ≡ 48 + 4 * length meter + 16 * length nums
  unfolding file_of
  file_length e f =
      words_length (header_words score ++ (meter ++ tempo_words nums dens bits))
      ∙ simp length-append (omega (arith, header_length score, tempo_length nums dens bits e f))

pub same_points : {nums nums′ : List ℤ} {dens dens′ bits bits′ : List ℕ} → nums ≡ nums′ → dens ≡ dens′ → bits ≡ bits′
    → words_bytes (tempo_words nums dens bits) ≡ words_bytes (tempo_words nums′ dens′ bits′)
same_points e f g = cc

-- ---- the test of the beats

pub sound_is : (nums : List ℤ) (dens bits : List ℕ) → length dens ≡ length nums → length bits ≡ length nums → length nums ≤ 65536
    → is_ok (map_test nums dens bits) ≡ all_beats nums dens
unfolding map_test
sound_is nums dens bits e f h = simp (eq-eqb (length dens) (length nums) e, eq-eqb (length bits) (length nums) f, le-leb (length nums) 65536 h) (go (all_beats nums dens))
  where
    ok : Result Unit Refusal
    ok = Ok tt

    go : (t : Bool) → is_ok (cond t ok (Err NotBeat)) ≡ t
    go true = refl
    go false = refl
