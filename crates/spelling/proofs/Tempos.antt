-- A tempo's text, part by part: its bits, its digits before a point, and those behind it.
use Rattle.std.proofs.Common.{◌≡◌, ℕ, suc, ◌<◌, ◌≤◌, true, false, cond, ◌&&◌, eqb, ltb, leb, List, [], ◌∷◌, ◌++◌, length, get_or, take, drop, sym, refl, ap, ◌∙◌, arith, take_all, le-ltb, lt-ltb, eq-eqb, ne_eqb, eqb-true, le-leb, Option, None, Some}
use Rattle.std.specs.List.{starts_with}
use Rattle.std.proofs.lemmas.Bool.Decides.{nat_tests}
use borrow.Author.Tests.{lt-leb}
use Rattle.numbers.proofs.Laws.{by_order, and_left, cond_same}
use Rattle.splits.specs.Splits.{other, run}
use Rattle.spelling.specs.Words.{number_by, some_digits, tempo_by, behind_point, point_tempo, decimal_tempo, is_bits, bits_tempo, tempo_of}
use Rattle.spelling.proofs.Reading.{number_append, carried, no_word, some_word}

-- ---- bits

-- the test that std makes of the first two bytes
pub by_start : (word : List ℕ) → length word ≡ 10 → starts_with eqb word (48 ∷ 120 ∷ []) ≡ is_bits word
unfolding is_bits
by_start [] e = absurd (omega arith)
by_start (a ∷ []) e = absurd (omega arith)
by_start (a ∷ b ∷ rest) e = grind (arith, nat_tests)

module _ (word : List ℕ) where
  pub bits_is : number_by 16 4294967295 0 word ≡ bits_tempo word
  unfolding bits_tempo
  bits_is = refl

  pub not_ten : (length word ≡ 10 → ⊥) → false ≡ is_bits word
  unfolding is_bits
  not_ten n = simp (ne_eqb (length word) 10 n)

  pub not_zero : length word ≡ 10 → (get_or word 0 0 ≡ 48 → ⊥) → false ≡ is_bits word
  unfolding is_bits
  not_zero e n = simp (eq-eqb (length word) 10 e, ne_eqb (get_or word 0 0) 48 n)

  pub by_x : length word ≡ 10 → get_or word 0 0 ≡ 48 → eqb (get_or word 1 0) 120 ≡ is_bits word
  unfolding is_bits
  by_x e z = simp (eq-eqb (length word) 10 e, eq-eqb (get_or word 0 0) 48 z)

  pub ten_bytes : is_bits word ≡ true → length word ≡ 10
  unfolding is_bits
  ten_bytes e = eqb-true (length word) 10 (and_left (eqb (length word) 10) (eqb (get_or word 0 0) 48 && eqb (get_or word 1 0) 120) e)

  pub by_bits : is_bits word ≡ true → bits_tempo (drop 2 word) ≡ tempo_of word
  unfolding tempo_of
  by_bits e = simp e

  pub by_digits : is_bits word ≡ false → decimal_tempo word ≡ tempo_of word
  unfolding tempo_of
  by_digits e = simp e

-- ---- behind a point

module _ (front : ℕ) (word : List ℕ) where
  pub no_places : length word ≡ 0 → None ≡ behind_point front word
  unfolding behind_point
  no_places e = simp (le-ltb 0 (length word) (omega arith))

  pub many_places : 10 < length word → None ≡ behind_point front word
  unfolding behind_point
  many_places h = simp (lt-ltb 0 (length word) (omega arith), lt-leb (length word) 10 h)

  pub some_places : (length word ≡ 0 → ⊥) → length word ≤ 10 → tempo_by (length word) (number_by 10 16777215 front word) ≡ behind_point front word
  unfolding behind_point
  some_places n h = simp (lt-ltb 0 (length word) (omega arith), le-leb (length word) 10 h)

-- the tempo of what was read before a point, and the word behind it
unfoldable pub pointed : Option ℕ → List ℕ → Option ℕ
pointed (Some front) back = behind_point front back
pointed None back = None

tested : (read : Option ℕ) (back : List ℕ)
    → cond (ltb 0 (length back) && leb (length back) 10) (tempo_by (length back) (carried 10 16777215 read back)) None ≡ pointed read back
unfolding carried pointed behind_point
tested (Some n) back = refl
tested None back = cond_same (ltb 0 (length back) && leb (length back) 10) None

some_front : (front back : List ℕ) → (length front ≡ 0 → ⊥)
    → point_tempo front back ≡ cond (ltb 0 (length back) && leb (length back) 10) (tempo_by (length back) (number_by 10 16777215 0 (front ++ back))) None
unfolding point_tempo
some_front front back n = simp (lt-ltb 0 (length front) (omega arith))

pointed_is : (front back : List ℕ) → point_tempo front back ≡ pointed (some_digits 16777215 front) back
unfolding point_tempo pointed
pointed_is [] back = ap (λ (read : Option ℕ). pointed read back) (no_word 16777215 [] refl)
pointed_is (byte ∷ front) back =
    some_front (byte ∷ front) back (λ z. omega arith)
    ∙ ap (λ (all : Option ℕ). cond (ltb 0 (length back) && leb (length back) 10) (tempo_by (length back) all) None)
    (number_append 10 16777215 (omega arith) 0 (byte ∷ front) back)
    ∙ tested (number_by 10 16777215 0 (byte ∷ front)) back
    ∙ ap (λ (read : Option ℕ). pointed read back) (some_word 16777215 (byte ∷ front) (λ z. omega arith))

-- ---- decimal digits

module _ (word : List ℕ) where
  at_point : run (other 46) word < length word → pointed (some_digits 16777215 (take (run (other 46) word) word)) (drop (suc (run (other 46) word)) word) ≡ decimal_tempo word
  unfolding decimal_tempo
  at_point h = simp (lt-ltb (run (other 46) word) (length word) h) (sym (pointed_is (take (run (other 46) word) word) (drop (suc (run (other 46) word)) word)))

  at_end : length word ≤ run (other 46) word → tempo_by 0 (some_digits 16777215 (take (run (other 46) word) word)) ≡ decimal_tempo word
  unfolding decimal_tempo
  at_end h =
      simp (le-ltb (run (other 46) word) (length word) h) (ap (λ (all : List ℕ). tempo_by 0 (some_digits 16777215 all)) (take_all (run (other 46) word) word h))

  module _ (point : ℕ) (is : point ≡ run (other 46) word) where
    pub with_point_lem : point < length word → pointed (some_digits 16777215 (take point word)) (drop (suc point) word) ≡ decimal_tempo word
    with_point_lem h = ap (λ (p : ℕ). pointed (some_digits 16777215 (take p word)) (drop (suc p) word)) is ∙ at_point (omega arith)

    pub without_point : length word ≤ point → tempo_by 0 (some_digits 16777215 (take point word)) ≡ decimal_tempo word
    without_point h = ap (λ (p : ℕ). tempo_by 0 (some_digits 16777215 (take p word))) is ∙ at_end (omega arith)

    -- where the bytes before the point are no digits
    pub no_front : None ≡ some_digits 16777215 (take point word) → None ≡ decimal_tempo word
    unfolding pointed
    no_front e =
        by_order point (length word) (λ h. ap (λ (read : Option ℕ). pointed read (drop (suc point) word)) e ∙ with_point_lem h) (λ h. ap (tempo_by 0) e ∙ without_point h)
