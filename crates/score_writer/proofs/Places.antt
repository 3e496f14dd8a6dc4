-- Words and numbers at their places: what was written there is read, and what is read there is written again.
use mathlib.Core.Path.{◌≡◌, refl, sym, ap, ◌∙◌}
use mathlib.Core.Bool.{Bool, true, ◌&&◌}
use mathlib.Core.List.{List, [], ◌∷◌, ◌++◌}
use Prim.Native.Nat.{ℕ, zero, suc, ◌+◌, ◌*◌, ◌/◌, ◌%◌, ◌≤◌, ◌<◌, ◌^◌}
use native.Mathlib.Nat.{div-add-mod', div-div-eq-div-mul}
use native.Mathlib.Omega.{arith}
use lib.IntN.{ℤ}
use lib.ListN.{length, take, drop, get_or}
use lib.Seq.{get_or-append-add, get_or-drop, drop-cons, drop-drop}
use Rattle.numbers.specs.Signs.{fits_i64}
use Rattle.numbers.proofs.Laws.{signed_bits, bits_signed, drop_four}
use Rattle.numbers.specs.Bits.{signed_of, bits_of}
use Rattle.beats.specs.Beats.{is_beat}
use Rattle.tempo.specs.Answers.{all_beats}
use Rattle.score.specs.Bytes.{word_at, number_at, each, word_bytes, words_bytes}
use Rattle.score.specs.Format.{beat_at, beats_good}
use Rattle.score_writer.specs.Files.{low_word, high_word, point_words, tempo_words}
use Rattle.score_writer.specs.Promise.{AllBelow, AllInI64}
use Rattle.score_writer.proofs.Putting.{word_length}

link : {A : Type 0} {x y : A} {l m : List A} → x ≡ y → l ≡ m → x ∷ l ≡ y ∷ m
link e f = cc

-- ---- a word written

past : (w : ℕ) (l : List ℕ) (p : ℕ) → word_at (word_bytes w ++ l) (4 + p) ≡ word_at l p
unfolding word_at
past w l p =
    let at : (j q : ℕ) → q ≡ 4 + (p + j) → get_or (word_bytes w ++ l) q 0 ≡ get_or l (p + j) 0 =
    λ j q e. ap (λ (n : ℕ). get_or (word_bytes w ++ l) n 0) (e ∙ ap (λ (n : ℕ). n + (p + j)) (sym (word_length w))) ∙ get_or-append-add (word_bytes w) l (p + j) 0 in
    let z : p + 0 ≡ p = omega arith in
    let a = at 0 (4 + p) (omega arith) ∙ ap (λ (n : ℕ). get_or l n 0) z in
    let b = at 1 (4 + p + 1) (omega arith) in
    let c = at 2 (4 + p + 2) (omega arith) in
    let d = at 3 (4 + p + 3) (omega arith) in
    omega (arith, a, b, c, d)

-- a word is the sum of its bytes, each times its weight
summed : (x₀ x₁ x₂ x₃ w u v t : ℕ) → u * 256 + x₀ ≡ w → v * 256 + x₁ ≡ u → t * 256 + x₂ ≡ v → x₃ ≡ t → x₀ + x₁ * 256 + x₂ * 65536 + x₃ * 16777216 ≡ w
summed x₀ x₁ x₂ x₃ w u v t a b c d = omega arith

parts : (w : ℕ) → w < 2 ^ 32 → w % 256 + w / 256 % 256 * 256 + w / 65536 % 256 * 65536 + w / 16777216 % 256 * 16777216 ≡ w
parts w h =
    let last : w / 16777216 % 256 ≡ w / 16777216 = omega arith in
    summed (w % 256) (w / 256 % 256) (w / 65536 % 256) (w / 16777216 % 256) w (w / 256) (w / 65536) (w / 16777216) (div-add-mod' w 256)
    (ap (λ (v : ℕ). v * 256 + w / 256 % 256) (sym (div-div-eq-div-mul w 256 256)) ∙ div-add-mod' (w / 256) 256)
    (ap (λ (v : ℕ). v * 256 + w / 65536 % 256) (sym (div-div-eq-div-mul w 65536 256)) ∙ div-add-mod' (w / 65536) 256)
    last

pub word_back : (ws : List ℕ) (k : ℕ) → AllBelow (2 ^ 32) ws → word_at (words_bytes ws) (4 * k) ≡ get_or ws k 0
unfolding word_at words_bytes word_bytes
word_back [] k all = refl
word_back (w ∷ ws) zero all = parts w (all 0)
word_back (w ∷ ws) (suc k) all =
    let p : 4 * suc k ≡ 4 + 4 * k = omega arith in
    ap (word_at (word_bytes w ++ words_bytes ws)) p ∙ past w (words_bytes ws) (4 * k) ∙ word_back ws k (λ j. all (suc j))

-- ---- a word read

four : (x y z w : ℕ) → x < 256 → y < 256 → z < 256 → w < 256 → word_bytes (x + y * 256 + z * 65536 + w * 16777216) ≡ x ∷ y ∷ z ∷ w ∷ []
unfolding word_bytes
four x y z w a b c d =
    let d₁ : (x + y * 256 + z * 65536 + w * 16777216) / 256 ≡ y + z * 256 + w * 65536 = omega arith in
    let d₂ : (x + y * 256 + z * 65536 + w * 16777216) / 65536 ≡ z + w * 256 = omega arith in
    let d₃ : (x + y * 256 + z * 65536 + w * 16777216) / 16777216 ≡ w = omega arith in
    let e₀ : (x + y * 256 + z * 65536 + w * 16777216) % 256 ≡ x = omega arith in
    let e₁ : (y + z * 256 + w * 65536) % 256 ≡ y = omega arith in
    let e₂ : (z + w * 256) % 256 ≡ z = omega arith in
    let e₃ : w % 256 ≡ w = omega arith in
    let byte : ℕ → ℕ = λ n. n % 256 in
    link e₀ (link (ap byte d₁ ∙ e₁) (link (ap byte d₂ ∙ e₂) (link (ap byte d₃ ∙ e₃) refl)))

module _ (b : List ℕ) where
  module _ (all : AllBelow 256 b) where
    pub word_fits : (p : ℕ) → word_at b p < 2 ^ 32
    unfolding word_at
    word_fits p = omega (arith, all p, all (p + 1), all (p + 2), all (p + 3))

    bytes_at : (p : ℕ) → word_bytes (word_at b p) ≡ get_or b p 0 ∷ get_or b (p + 1) 0 ∷ get_or b (p + 2) 0 ∷ get_or b (p + 3) 0 ∷ []
    unfolding word_at
    bytes_at p = four (get_or b p 0) (get_or b (p + 1) 0) (get_or b (p + 2) 0) (get_or b (p + 3) 0) (all p) (all (p + 1)) (all (p + 2)) (all (p + 3))

    -- the words from a place on are the bytes from there on
    pub bytes_again : (n p : ℕ) → p + 4 * n ≤ length b → words_bytes (each (word_at b) p 4 n) ≡ take (4 * n) (drop p b)
    unfolding words_bytes each
    bytes_again zero p h = refl
    bytes_again (suc n) p h =
        let e : suc (suc (suc (suc (4 * n)))) ≡ 4 * suc n = omega arith in
        let rest = bytes_again n (p + 4) (omega arith) in
        ap (λ (l : List ℕ). l ++ words_bytes (each (word_at b) (p + 4) 4 n)) (bytes_at p)
        ∙ ap (λ (l : List ℕ). get_or b p 0 ∷ get_or b (p + 1) 0 ∷ get_or b (p + 2) 0 ∷ get_or b (p + 3) 0 ∷ l) rest
        ∙ ap (take (suc (suc (suc (suc (4 * n)))))) (sym (drop_four b p (omega arith)))
        ∙ ap (λ (k : ℕ). take k (drop p b)) e

-- ---- numbers

-- two words written are the number read
pub number_at_lem : (b : List ℕ) (p : ℕ) (num : ℤ) → fits_i64 num ≡ true → word_at b p ≡ low_word num → word_at b (p + 4) ≡ high_word num → number_at b p ≡ num
unfolding number_at
number_at_lem b p num h e f =
    let whole : word_at b p + word_at b (p + 4) * 4294967296 ≡ bits_of num = omega (arith, e, f) in
    ap signed_of whole ∙ signed_bits num h

module _ (b : List ℕ) (all : AllBelow 256 b) (p : ℕ) where
  whole : bits_of (number_at b p) ≡ word_at b p + word_at b (p + 4) * 4294967296
  unfolding number_at
  whole = bits_signed (word_at b p + word_at b (p + 4) * 4294967296) (omega (arith, word_fits b all p, word_fits b all (p + 4)))

  pub low_again : low_word (number_at b p) ≡ word_at b p
  low_again = omega (arith, whole, word_fits b all p)

  pub high_again : high_word (number_at b p) ≡ word_at b (p + 4)
  high_again = omega (arith, whole, word_fits b all p)

-- ---- lists of words

pub each_split : {A : Type 0} (read : ℕ → A) (p m n : ℕ) → each read p 4 (m + n) ≡ each read p 4 m ++ each read (p + 4 * m) 4 n
unfolding each
each_split read p zero n =
    let e : 0 + n ≡ n = omega arith in
    let q : p ≡ p + 4 * 0 = omega arith in
    ap (each read p 4) e ∙ ap (λ (k : ℕ). each read k 4 n) q
each_split read p (suc m) n =
    let e : suc m + n ≡ suc (m + n) = omega arith in
    let q : p + 4 + 4 * m ≡ p + 4 * suc m = omega arith in
    ap (each read p 4) e ∙ link refl (each_split read (p + 4) m n ∙ ap (λ (k : ℕ). each read (p + 4) 4 m ++ each read k 4 n) q)

module _ (ws : List ℕ) (all : AllBelow (2 ^ 32) ws) where
  pub words_back : (n k : ℕ) → k + n ≤ length ws → each (word_at (words_bytes ws)) (4 * k) 4 n ≡ take n (drop k ws)
  unfolding each
  words_back zero k h = refl
  words_back (suc n) k h =
      let q : 4 * k + 4 ≡ 4 * suc k = omega arith in
      link (word_back ws k all) (ap (λ (p : ℕ). each (word_at (words_bytes ws)) p 4 n) q ∙ words_back n (suc k) (omega arith))
      ∙ ap (take (suc n)) (sym (drop-cons ws k 0 (omega arith)))

  place_back : (k j p : ℕ) → p ≡ 4 * (k + j) → word_at (words_bytes ws) p ≡ get_or (drop k ws) j 0
  place_back k j p e = ap (word_at (words_bytes ws)) e ∙ word_back ws (k + j) all ∙ sym (get_or-drop k ws j 0)

  -- the three lists of the tempo points that stand from word k on
  pub points_back : (nums : List ℤ) (dens bits : List ℕ) (k : ℕ) → length dens ≡ length nums → length bits ≡ length nums → AllInI64 nums
      → drop k ws ≡ tempo_words nums dens bits
      → (each (number_at (words_bytes ws)) (4 * k) 16 (length nums) ≡ nums)
      × (each (word_at (words_bytes ws)) (4 * k + 8) 16 (length nums) ≡ dens)
      × (each (word_at (words_bytes ws)) (4 * k + 12) 16 (length nums) ≡ bits)
  unfolding each tempo_words point_words
  points_back [] [] [] k e f h d = (refl, refl, refl)
  points_back [] (x ∷ dens) bits k e f h d = let z : ⊥ = omega arith in absurd z
  points_back [] [] (x ∷ bits) k e f h d = let z : ⊥ = omega arith in absurd z
  points_back (n ∷ nums) [] bits k e f h d = let z : ⊥ = omega arith in absurd z
  points_back (n ∷ nums) (x ∷ dens) [] k e f h d = let z : ⊥ = omega arith in absurd z
  points_back (n ∷ nums) (x ∷ dens) (y ∷ bits) k e f h d =
      let b = words_bytes ws in
      let at : (j p : ℕ) → p ≡ 4 * (k + j) → word_at b p ≡ get_or (low_word n ∷ high_word n ∷ x ∷ y ∷ tempo_words nums dens bits) j 0 =
      λ j p q. place_back k j p q ∙ ap (λ (l : List ℕ). get_or l j 0) d in
      let rest = points_back nums dens bits (k + 4) (omega arith) (omega arith) (λ j. h (suc j)) (sym (drop-drop 4 k ws) ∙ ap (drop 4) d) in
      let q : 4 * k + 16 ≡ 4 * (k + 4) = omega arith in
      let q₈ : 4 * k + 8 + 16 ≡ 4 * (k + 4) + 8 = omega arith in
      let q₁₂ : 4 * k + 12 + 16 ≡ 4 * (k + 4) + 12 = omega arith in
      let num = number_at_lem b (4 * k) n (h 0) (at 0 (4 * k) (omega arith)) (at 1 (4 * k + 4) (omega arith)) in (
        link num (ap (λ (p : ℕ). each (number_at b) p 16 (length nums)) q ∙ rest.0),
        link (at 2 (4 * k + 8) (omega arith)) (ap (λ (p : ℕ). each (word_at b) p 16 (length nums)) q₈ ∙ rest.1),
        link (at 3 (4 * k + 12) (omega arith)) (ap (λ (p : ℕ). each (word_at b) p 16 (length nums)) q₁₂ ∙ rest.2),
      )

module _ (b : List ℕ) where
  -- the test of the file's beats is that of its lists
  pub good_is : (p n : ℕ) → beats_good b p n ≡ all_beats (each (number_at b) p 16 n) (each (word_at b) (p + 8) 16 n)
  unfolding beats_good all_beats each beat_at
  good_is p zero = refl
  good_is p (suc n) =
      let q : p + 16 + 8 ≡ p + 8 + 16 = omega arith in
      let rest = good_is (p + 16) n ∙ ap (λ (k : ℕ). all_beats (each (number_at b) (p + 16) 16 n) (each (word_at b) k 16 n)) q in
      ap (λ (t : Bool). is_beat (record { num = number_at b p; den = word_at b (p + 8) }) && t) rest

  -- the tempo points of a file, as words
  pub tempo_again : AllBelow 256 b → (p n : ℕ)
      → tempo_words (each (number_at b) p 16 n) (each (word_at b) (p + 8) 16 n) (each (word_at b) (p + 12) 16 n) ≡ each (word_at b) p 4 (4 * n)
  unfolding tempo_words each point_words
  tempo_again all p zero = refl
  tempo_again all p (suc n) =
      let rest = tempo_again all (p + 16) n in
      let q₈ : p + 8 + 16 ≡ p + 16 + 8 = omega arith in
      let q₁₂ : p + 12 + 16 ≡ p + 16 + 12 = omega arith in
      let r₈ : p + 8 ≡ p + 4 + 4 = omega arith in
      let r₁₂ : p + 12 ≡ p + 4 + 4 + 4 = omega arith in
      let r₁₆ : p + 16 ≡ p + 4 + 4 + 4 + 4 = omega arith in
      let e : suc (suc (suc (suc (4 * n)))) ≡ 4 * suc n = omega arith in
      let points : ℕ → ℕ → List ℕ = λ x y. tempo_words (each (number_at b) (p + 16) 16 n) (each (word_at b) x 16 n) (each (word_at b) y 16 n) in
      let turned = ap (λ (x : ℕ). points x (p + 12 + 16)) q₈ ∙ ap (points (p + 16 + 8)) q₁₂ in
      let behind = turned ∙ rest ∙ ap (λ (x : ℕ). each (word_at b) x 4 (4 * n)) r₁₆ in
      link (low_again b all p) (link (high_again b all p) (link (ap (word_at b) r₈) (link (ap (word_at b) r₁₂) behind)))
      ∙ ap (each (word_at b) p 4) e
